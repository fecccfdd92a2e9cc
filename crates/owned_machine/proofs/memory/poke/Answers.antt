use Rattle.std.proofs.Common.{◌∙◌, sym, ap, subst, List, ℕ, length, Err}
use Rattle.std.specs.Option.{option_map}
use Rattle.dirty_log.specs.Copies.{wrote}
use Rattle.guest_windows.specs.Windows.{Window, write_at}
use Rattle.its_plain.specs.Answer.{poked}
use Rattle.owned_parts.specs.Owned.{state_of_parts}
use Rattle.owned_machine.specs.Whole.{GoesOn}
use Rattle.owned_machine.proofs.Written.{poke_goes, poke_stays, write_done, write_outside}
use Rattle.owned_machine.proofs.memory.poke.Goals as goal

pub returns-in-Ok-clause-left : goal.returns-in-Ok-clause-left
returns-in-Ok-clause-left c =
    let p = c.args.parts.now in
    poke_goes p c.args.addr c.args.bytes.now c.write.new.self c.mark.new.track c.requires
    (ap (write_at p.memory c.args.addr.0) (sym c.as_slice-bytes.ensures.bytes) ∙ write_done c.args.addr _ c.write.result p.memory c.write.new.self
    c.write.ensures.written c.in-Ok.is)
    (c.mark.ensures ∙ ap (λ (bs : List ℕ). option_map (wrote c.args.addr.0 (length bs)) p.track) c.as_slice-bytes.ensures.bytes)

pub returns-in-Err-Outside-clause-left : goal.returns-in-Err-Outside-clause-left
returns-in-Err-Outside-clause-left c =
    let p = c.args.parts.now in
    let e = c.in-Err-Outside in
    let out = write_outside c.args.addr e.field-0-0 _ c.write.result p.memory c.write.new.self c.write.ensures.written (e.is ∙ ap Err e.field-0-is) in
    subst (λ (x : List Window). GoesOn (record p { memory = x }) (poked (state_of_parts p) c.args.addr.0 c.args.bytes.now)) (sym out.1)
    (poke_stays p c.args.addr c.args.bytes.now c.requires (ap (write_at p.memory c.args.addr.0) (sym c.as_slice-bytes.ensures.bytes) ∙ out.0))
