use Rattle.its_steps.proofs.Assembled.{right_had, assembled_has}
use Rattle.its_steps.proofs.States.{states}
use Rattle.its_steps.proofs.laws.states_may_commit.Goals as goal

pub returns : goal.returns
returns c = record {
  state = states;
  right = right_had;
  assembled = assembled_has;
}
