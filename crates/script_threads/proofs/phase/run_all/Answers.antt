use Rattle.std.proofs.Common.{sym, subst, List}
use Rattle.script_threads.specs.declared.job.Job.{Job}
use Rattle.script_threads.specs.Jobs.{Both, Worked}
use Rattle.script_threads.proofs.Phases.{length_after, written_back}
use Rattle.script_threads.proofs.phase.run_all.Goals as goal

pub returns-clause-worked : goal.returns-clause-worked
returns-clause-worked g c =
    let old = c.args.jobs.now.items in let new = c.run_each.new.jobs in
    let worked : Both (Worked c.args.machine.now) old new = subst (λ (z : List Job). Both (Worked c.args.machine.now) z new) c.as_mut_slice.ensures.value
    c.run_each.ensures in
    subst (Both (Worked c.args.machine.now) old)
    (sym (written_back old new c.args.jobs.now.len (sym c.args.jobs.now.ok.0) (length_after c.args.machine.now old new worked))) worked
