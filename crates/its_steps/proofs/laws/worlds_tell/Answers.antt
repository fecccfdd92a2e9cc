use Rattle.its_steps.proofs.Passes.{bounded, turns, knows}
use Rattle.its_steps.proofs.Words.{reader}
use Rattle.its_steps.proofs.laws.worlds_tell.Goals as goal

pub returns : goal.returns
returns c = record {
  reader = reader;
  numbers = bounded;
  turns = turns;
  root = knows;
}
