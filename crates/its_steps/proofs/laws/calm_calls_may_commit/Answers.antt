use Rattle.its_steps.proofs.Calm.{calm, calm_may}
use Rattle.its_steps.proofs.Stamping.{calm_in}
use Rattle.its_steps.proofs.laws.calm_calls_may_commit.Goals as goal

pub returns : goal.returns
returns c = record {
  state = calm_in;
  steady = calm;
  may = calm_may;
}
