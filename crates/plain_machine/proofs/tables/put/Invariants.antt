use Rattle.std.proofs.Common.{◌≡◌, ◌++◌, take, drop}
use Rattle.std.specs.FinMap.{put}
use Rattle.plain_machine.proofs.tables.put.Given as goal

abbrev pub invariant-loop-at : goal.invariant-loop-at
invariant-loop-at g l = record {
  same : l.entries.items ≡ l.initial.entries.items;
  rest : take l.at l.entries.items ++ put g.K.Ord.cmp l.key l.value (drop l.at l.entries.items) ≡ put g.K.Ord.cmp l.key l.value l.entries.items;
}
