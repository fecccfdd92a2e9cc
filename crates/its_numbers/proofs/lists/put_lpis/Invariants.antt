use Rattle.std.proofs.Common.{◌≡◌, ◌<◌, ◌≤◌, ◌-◌, ℕ, length, map}
use Rattle.std.specs.Prelude.{slice_index}
use Rattle.its_numbers.specs.Lists.{SameFrom}
use Rattle.its_numbers.proofs.lists.put_lpis.Given as goal

-- the first of them are copied, and the rest of the list is as it was
abbrev pub invariant-loop-at : goal.invariant-loop-at
invariant-loop-at l = record {
  same_length : length l.list ≡ length l.initial.list;
  low : l.at ≤ length l.lpis;
  told : (i : ℕ) → i < l.at → slice_index l.list i ≡ slice_index (map (λ x. x.0) l.lpis) i;
  rest : SameFrom l.at l.initial.list l.list;
}

abbrev pub decreases-loop-at : goal.decreases-loop-at
decreases-loop-at l = length l.lpis - l.at
