use Rattle.std.proofs.Common.{◌≡◌, Bool, sym, ◌∙◌, ap}
use Rattle.its_plain.specs.Machine.{are_programmed, layout_of}
use Rattle.its_plain.specs.declared.desc.Desc.{Desc}
use Rattle.its_plain.specs.declared.layout.Layout.{Layout}
use Rattle.its_plain.specs.declared.call.Reply.TheVariants as reply
use Rattle.its_steps.specs.declared.change.ShardChange.TheVariants.{Keep}
use Rattle.its_turns.specs.Machines.{setup, view}
use Rattle.its_turns.specs.declared.machine.Machine.{Machine}
use Rattle.its_turns.proofs.Telling.{may_here, owes_here}
use Rattle.gicr_lpi.specs.Accesses.{write_call}
use Rattle.gicr_lpi.specs.Hands.{state_of, held_of, after_write}
use Rattle.gicr_lpi.proofs.Alone.{may_write}
use Rattle.gicr_lpi.proofs.writes.write_with.Goals as goal

is_so : (m : Machine) (programmed : Bool) (desc : Desc) → layout_of desc ≡ (setup m).start.layout → programmed ≡ are_programmed desc.tables
    → programmed ≡ (setup m).start.layout.gicr
is_so m programmed desc layout is = is ∙ ap (λ (l : Layout). l.gicr) layout

pub try_commit-requires-clause-may : goal.try_commit-requires-clause-may
try_commit-requires-clause-may g c =
    let m = c.args.machine.now in let s = setup m in let a = c.args.access in let h = state_of c.args.hand in
    rw (c.call.ensures) (may_here s (write_call a) reply.Ok Keep (held_of a.vcpu h)
    (λ _. held_of a.vcpu (after_write s.start.layout.gicr s.start.layout.shape a h))
    (λ w room. may_write s m.laid.1 w room a.vcpu c.requires.vcpu a.off a.size a.value h c.requires.enough) (view c.args.pass.now) c.requires.held)

pub put_hand-requires-clause-held : goal.put_hand-requires-clause-held
put_hand-requires-clause-held g c =
    let m = c.args.machine.now in let s = setup m in let a = c.args.access in let h = state_of c.args.hand in
    let so = is_so m c.are_programmed-programmed.result c.desc-desc.result.now c.desc-desc.ensures.layout c.are_programmed-programmed.ensures in
    let left : state_of c.written-hand.result ≡ after_write s.start.layout.gicr s.start.layout.shape a h =
    c.written-hand.ensures.after ∙ (λ d. after_write (so d) (c.desc-desc.ensures.shape d) a h) in
    owes_here s (write_call a) reply.Ok Keep (held_of a.vcpu h)
    (λ _. held_of a.vcpu (after_write s.start.layout.gicr s.start.layout.shape a h))
    (λ w room. may_write s m.laid.1 w room a.vcpu c.requires.vcpu a.off a.size a.value h c.requires.enough) (view c.args.pass.now) c.requires.held
    c.requires.of.1 c.in-Ok.word (view c.try_commit.new.pass) (rw (c.call.ensures) at c.in-Ok.ensures.result)
    ∙ (λ d. held_of a.vcpu (sym left d))
