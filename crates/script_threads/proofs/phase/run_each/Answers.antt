use Rattle.std.proofs.Common.{rules, ◌<◌, ℕ, length, get_or}
use Rattle.script_threads.specs.declared.job.Job.{Job}
use Rattle.script_threads.specs.Jobs.{Worked}
use Rattle.script_threads.proofs.Phases.{both}
use Rattle.script_threads.proofs.phase.run_each.Goals as goal

pub returns : goal.returns
returns g c =
    let each : (i : ℕ) (d : Job) → i < length c.args.jobs.now → Worked c.args.machine.now (get_or c.args.jobs.now i d) (get_or c.for_each_mut.new.s i d) =
    search rules in
    both (Worked c.args.machine.now) c.args.jobs.now c.for_each_mut.new.s (search rules) each
