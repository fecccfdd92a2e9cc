use Rattle.its_history.proofs.Merges.{merge_gives_it}
use Rattle.its_history.proofs.threads.merge_gives.Goals as goal

pub returns : goal.returns
returns c = merge_gives_it
