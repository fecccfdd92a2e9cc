use Rattle.script_threads.proofs.Scripts.{legs_may_run_so}
use Rattle.script_threads.proofs.laws.legs_may_run.Goals as goal

pub returns : goal.returns
returns c = legs_may_run_so
