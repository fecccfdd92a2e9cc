use Rattle.its_steps.proofs.Together.{takes, gives, brings}
use Rattle.its_steps.proofs.Turns.{tries, takes_out, puts_home, releases}
use Rattle.its_steps.proofs.Words.{keeps_load, keeps_miss, keeps_commit}
use Rattle.its_steps.proofs.laws.passes_keep.Goals as goal

pub returns : goal.returns
returns c = record {
  load = keeps_load;
  try_part = tries;
  miss = keeps_miss;
  take_out = takes_out;
  commit = keeps_commit;
  put_home = puts_home;
  release = releases;
  take = takes;
  give = gives;
  bring = brings;
}
