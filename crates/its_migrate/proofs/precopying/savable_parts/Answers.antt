use Rattle.std.proofs.Common.{ap, sym, ◌∙◌}
use Rattle.its_plain.specs.Plain.{Plain}
use Rattle.its_plain.specs.Regions.{savable}
use Rattle.its_turns.specs.Machines.{setup, view}
use Rattle.held_parts.specs.Wholes.{redists_in}
use Rattle.its_migrate.proofs.Taken.{lent_hand, taken_hand, taken_rest, rests_again}
use Rattle.its_migrate.proofs.Left.{unpacked_state, unpacked_taken, cause_at}
use Rattle.its_migrate.proofs.precopying.savable_parts.Goals as goal

pub savable-requires-clause-parts : goal.savable-requires-clause-parts
savable-requires-clause-parts c =
    let m = c.args.machine.now in
    let x = c.take_whole-whole.result in
    lent_hand c.in_place.result c.in_ok-layout.layout (redists_in x) c.in_place.ensures.layout c.in_place.ensures.redists
    (taken_hand (setup m) (view c.args.root.now) (view c.take_whole-whole.new.pass) x c.take_whole-whole.ensures.takes c.in_ok-layout.layout
    (c.in_ok-layout.ensures ∙ c.desc.ensures.layout))

pub returns-in-Ok-clause-taken : goal.returns-in-Ok-clause-taken
returns-in-Ok-clause-taken c =
    let own = c.in_ok-layout.ensures ∙ c.desc.ensures.layout in
    let takes = c.take_whole-whole.ensures.takes in
    let m = c.args.machine.now in
    let w = view c.take_whole-whole.new.pass in
    let x = c.take_whole-whole.result in
    let rest = c.in_place.ensures.state ∙ taken_rest m c.args.root.now w x takes c.requires.lone c.in_ok-layout.layout own in
    unpacked_taken m c.args.root.now w x takes c.requires.lone c.in_ok-layout.layout own c.unpacked.result c.unpacked.ensures
    (sym (ap (λ (u : Plain). savable u) rest) ∙ c.in-Ok.ensures)

pub returns-in-Ok-clause-state : goal.returns-in-Ok-clause-state
returns-in-Ok-clause-state c =
    unpacked_state c.args.machine.now c.args.root.now (view c.take_whole-whole.new.pass) c.take_whole-whole.result c.take_whole-whole.ensures.takes
    c.requires.lone c.in_ok-layout.layout (c.in_ok-layout.ensures ∙ c.desc.ensures.layout) c.unpacked.result c.unpacked.ensures

pub returns-in-Err-clause-rests : goal.returns-in-Err-clause-rests
returns-in-Err-clause-rests c =
    rests_again (view c.args.root.now) (view c.take_whole-whole.new.pass) (view c.put_whole.new.pass) c.take_whole-whole.result (setup c.args.machine.now)
    c.take_whole-whole.ensures.takes c.put_whole.ensures.home c.requires.lone c.requires.free

pub returns-in-Err-clause-cause : goal.returns-in-Err-clause-cause
returns-in-Err-clause-cause c =
    let rest = c.in_place.ensures.state ∙ taken_rest c.args.machine.now c.args.root.now (view c.take_whole-whole.new.pass) c.take_whole-whole.result
    c.take_whole-whole.ensures.takes c.requires.lone c.in_ok-layout.layout (c.in_ok-layout.ensures ∙ c.desc.ensures.layout) in
    cause_at _ _ rest c.in-Err.error c.in-Err.ensures
