use Rattle.std.proofs.Common.{◌≡◌, ◌+◌, ◌≤◌, ◌++◌, map, length, vec_len, vec_capacity}
use Rattle.table_save.specs.Edges.{chosen, end_of}
use Rattle.table_save.proofs.edges.fill.Given as goal

abbrev pub invariant-loop-rest : goal.invariant-loop-rest
invariant-loop-rest l = record {
  bases : l.bases.items ++ map (λ a. a.base) (chosen l.all l.rest) ≡ l.fn.bases.items ++ map (λ a. a.base) (chosen l.all l.fn.areas);
  ends : l.ends.items ++ map end_of (chosen l.all l.rest) ≡ l.fn.ends.items ++ map end_of (chosen l.all l.fn.areas);
  some_bases : vec_len l.bases + length l.rest ≤ vec_capacity l.bases;
  some_ends : vec_len l.ends + length l.rest ≤ vec_capacity l.ends;
  room_of_bases : vec_capacity l.fn.bases ≤ vec_capacity l.bases;
  room_of_ends : vec_capacity l.fn.ends ≤ vec_capacity l.ends;
}

abbrev pub decreases-loop-rest : goal.decreases-loop-rest
decreases-loop-rest l = length l.rest
