use Rattle.std.proofs.Common.{ap, get_or, ◌∙◌}
use Rattle.its_turns.specs.Machines.{setup, view}
use Rattle.its_top.proofs.Runs.{leg_may}
use Rattle.its_top.proofs.Summaries.{first_of, leg_run}
use Rattle.its_top.proofs.summarize.count_calls.Goals as goal

pub run_leg-requires-clause-may : goal.run_leg-requires-clause-may
run_leg-requires-clause-may g c κs met =
    let leg = c.index-as_slice-0.result in
    (leg_may c.args.script.now 0 leg c.as_slice-leg.result.now c.args.machine.now c.requires.made.within c.requires.made.within.some_legs
    (c.index-as_slice-0.is ∙ ap (λ ls. get_or ls 0 leg) c.as_slice.ensures) c.as_slice-leg.ensures c.requires.desc).2

pub returns-clause-run : goal.returns-clause-run
returns-clause-run g c =
    let leg = c.index-as_slice-0.result in
    let same = first_of c.args.signals c.args.threads c.args.script.now leg c.as_slice-leg.result.now c.requires.made.same
    (c.index-as_slice-0.is ∙ ap (λ ls. get_or ls 0 leg) c.as_slice.ensures) c.as_slice-leg.ensures in
    let ran = rw c.in-None.is at c.in_ok-end.ensures.leg in
    leg_run c.args.signals c.args.threads (setup c.args.machine.now) c.as_slice-leg.result.now c.in_ok-end.end.lists.items (view c.run_leg.new.root) same ran
