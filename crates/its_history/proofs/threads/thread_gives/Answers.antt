use Rattle.its_history.proofs.Merges.{thread_gives_it}
use Rattle.its_history.proofs.threads.thread_gives.Goals as goal

pub returns : goal.returns
returns c = thread_gives_it
