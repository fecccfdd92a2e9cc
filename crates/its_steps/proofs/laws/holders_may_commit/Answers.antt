use Rattle.its_steps.proofs.Holders.{holders}
use Rattle.its_steps.proofs.laws.holders_may_commit.Goals as goal

pub returns : goal.returns
returns c = holders
