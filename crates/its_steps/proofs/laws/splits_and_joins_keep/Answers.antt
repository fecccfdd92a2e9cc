use Rattle.its_steps.proofs.Passes.{splits, joins, notes, meets}
use Rattle.its_steps.proofs.laws.splits_and_joins_keep.Goals as goal

pub returns : goal.returns
returns c = record {
  split = splits;
  join = joins;
  note = notes;
  meet = meets;
}
