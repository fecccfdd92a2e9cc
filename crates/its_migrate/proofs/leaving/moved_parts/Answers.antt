use Rattle.std.proofs.Common.{ap, sym, subst, ◌∙◌}
use Rattle.its_plain.specs.Plain.{Plain}
use Rattle.its_plain.specs.declared.layout.Layout.{Layout}
use Rattle.owned_machine.specs.Migrations.{AreMoved}
use Rattle.its_turns.specs.Machines.{setup, view}
use Rattle.held_parts.specs.Wholes.{state_of_whole}
use Rattle.its_migrate.specs.Resting.{resting}
use Rattle.its_migrate.proofs.Taken.{taken_machine, rests_again, rest_of_machine, placed_rest}
use Rattle.its_migrate.proofs.Moving.{moved_layouts, moved_counts}
use Rattle.its_migrate.proofs.leaving.moved_parts.Goals as goal

pub moved-moved-requires : goal.moved-moved-requires
moved-moved-requires c =
    let m = c.args.machine.now in
    let x = c.take_whole-whole.result in
    let e = c.in_place.ensures in
    taken_machine (setup m) (view c.args.root.now) (view c.take_whole-whole.new.pass) x c.take_whole-whole.ensures.takes c.in_place.result
    (e.layout ∙ (c.in_ok-layout.ensures ∙ c.desc.ensures.layout)) (e.state ∙ ap (λ (l : Layout). state_of_whole l x) (sym e.layout)) e.redists

pub returns-clause-rests : goal.returns-clause-rests
returns-clause-rests c =
    let m = c.args.machine.now in
    rests_again (view c.args.root.now) (view c.take_whole-whole.new.pass) (view c.put_whole.new.pass) c.take_whole-whole.result (setup m)
    c.take_whole-whole.ensures.takes c.put_whole.ensures.home c.requires.lone c.requires.free

pub returns-clause-moved : goal.returns-clause-moved
returns-clause-moved c =
    let m = c.args.machine.now in
    let x = c.take_whole-whole.result in
    let e = c.in_place.ensures in
    subst (λ (u : Plain). AreMoved u c.moved-moved.result) (placed_rest m c.args.root.now (view c.take_whole-whole.new.pass) x c.take_whole-whole.ensures.takes
    c.requires.lone c.in_place.result (e.layout ∙ (c.in_ok-layout.ensures ∙ c.desc.ensures.layout)) (e.state ∙ ap (λ (l : Layout). state_of_whole l x)
    (sym e.layout))) c.moved-moved.ensures

pub returns-clause-layout : goal.returns-clause-layout
returns-clause-layout c =
    let m = c.args.machine.now in
    moved_layouts (setup m) (resting m c.args.root.now) (rest_of_machine m c.args.root.now (view c.take_whole-whole.new.pass) c.take_whole-whole.result
    c.take_whole-whole.ensures.takes c.requires.lone) c.moved-moved.result (returns-clause-moved c)

pub returns-clause-translators : goal.returns-clause-translators
returns-clause-translators c =
    let m = c.args.machine.now in
    moved_counts (setup m) (resting m c.args.root.now) (rest_of_machine m c.args.root.now (view c.take_whole-whole.new.pass) c.take_whole-whole.result
    c.take_whole-whole.ensures.takes c.requires.lone) c.moved-moved.result (returns-clause-moved c)
