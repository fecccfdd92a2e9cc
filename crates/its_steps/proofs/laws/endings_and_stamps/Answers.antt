use Rattle.its_steps.proofs.Stamping.{nothing_ends, pair_ends, all_end, all_end_at_last}
use Rattle.its_steps.proofs.laws.endings_and_stamps.Goals as goal

pub returns : goal.returns
returns c = record {
  nothing = nothing_ends;
  pair = pair_ends;
  all = all_end;
  last = all_end_at_last;
}
