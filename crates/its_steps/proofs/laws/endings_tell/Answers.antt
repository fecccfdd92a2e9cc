use Rattle.its_steps.proofs.Endings.{all_endings, dropped_endings}
use Rattle.its_steps.proofs.Told.{alike, told}
use Rattle.its_steps.proofs.laws.endings_tell.Goals as goal

pub returns : goal.returns
returns c = record {
  all = all_endings;
  alike = alike;
  replies = told;
  dropped = dropped_endings;
}
