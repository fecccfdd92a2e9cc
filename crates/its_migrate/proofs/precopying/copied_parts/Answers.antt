use Rattle.std.proofs.Common.{ap, sym, subst, ◌∙◌}
use Rattle.its_plain.specs.Plain.{Plain}
use Rattle.its_plain.specs.Regions.{savable}
use Rattle.its_plain.specs.Saved.{moved}
use Rattle.owned_parts.specs.Owned.{state_of_parts}
use Rattle.owned_machine.specs.Whole.{GoesOn}
use Rattle.its_migrate.proofs.Copying.{same_savable, same_moved}
use Rattle.its_migrate.proofs.Taken.{state_in, lent_hand, machine_with}
use Rattle.its_migrate.proofs.precopying.copied_parts.Goals as goal

pub copied_memory-requires-clause-hand : goal.copied_memory-requires-clause-hand
copied_memory-requires-clause-hand c =
    let p = c.args.parts.now in
    let e = c.in_place-parts.ensures in
    lent_hand c.in_place-parts.result p.layout p.redists e.layout e.redists c.requires.machine.all_in_hand

pub save_in-requires-clause-parts : goal.save_in-requires-clause-parts
save_in-requires-clause-parts c =
    let p = c.args.parts.now in
    let e = c.in_place-parts.ensures in
    lent_hand c.in_place-parts.result p.layout p.redists e.layout e.redists c.requires.machine.all_in_hand

pub resumed-requires-clause-machine : goal.resumed-requires-clause-machine
resumed-requires-clause-machine c =
    let e = c.in_place-parts.ensures in
    (c.args.track, machine_with c.in_place-parts.result c.args.parts.now c.args.track e.state e.layout e.redists c.requires.machine)

pub resumed-requires-clause-savable : goal.resumed-requires-clause-savable
resumed-requires-clause-savable c =
    ap (λ (u : Plain). savable u) (state_in c.in_place-parts.result ∙ c.in_place-parts.ensures.state)
    ∙ (sym (same_savable (state_of_parts c.args.parts.now) c.args.track) ∙ c.requires.savable)

pub returns-clause-next : goal.returns-clause-next
returns-clause-next c =
    subst (λ (u : Plain). GoesOn c.in_ok-next.next u) (ap (λ (u : Plain). moved u) (state_in c.in_place-parts.result ∙ c.in_place-parts.ensures.state)
    ∙ sym (same_moved (state_of_parts c.args.parts.now) c.args.track)) c.in_ok-next.ensures
