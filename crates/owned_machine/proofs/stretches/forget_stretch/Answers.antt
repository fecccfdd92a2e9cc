use Rattle.std.proofs.Common.{◌∙◌, sym, ap, ℕ}
use Rattle.std.specs.Prelude.{replicate, None, Some}
use Rattle.std.specs.Option.{option_map}
use Rattle.std.proofs.lemmas.List.{length-replicate}
use Rattle.dirty_log.specs.Copies.{wrote}
use Rattle.owned_machine.proofs.LongWrites.{stretch_goes, forgot, none_forgot, forgot_inside, zeros_put}
use Rattle.owned_machine.proofs.stretches.forget_stretch.Goals as goal

pub returns-in-Ok-clause-done : goal.returns-in-Ok-clause-done
returns-in-Ok-clause-done c =
    let p = c.args.parts.now in
    let a = c.args.addr.0 in
    let zeros = replicate c.args.len 0 in
    let put = forgot c.args.addr _ c.forget.result p.memory c.forget.new.self c.forget.ensures.forgotten c.in-Ok.is in
    stretch_goes p a zeros c.forget.new.self c.mark.new.track c.requires (zeros_put p.memory c.forget.new.self a c.args.len put)
    (c.mark.ensures ∙ ap (λ (n : ℕ). option_map (wrote a n) p.track) (sym (length-replicate c.args.len 0)))

pub returns-in-Ok-clause-where_all : goal.returns-in-Ok-clause-where_all
returns-in-Ok-clause-where_all c =
    let p = c.args.parts.now in
    forgot_inside p.memory c.args.addr.0 c.args.len (Some c.forget.new.self)
    (forgot c.args.addr _ c.forget.result p.memory c.forget.new.self c.forget.ensures.forgotten c.in-Ok.is)

pub returns-in-Err-clause-where_all : goal.returns-in-Err-clause-where_all
returns-in-Err-clause-where_all c =
    let p = c.args.parts.now in
    let none = none_forgot c.args.addr c.in-Err.outside _ c.forget.result p.memory c.forget.new.self c.forget.ensures.forgotten c.in-Err.is in
    forgot_inside p.memory c.args.addr.0 c.args.len None none.0
