use Rattle.std.proofs.Common.{◌≡◌, ◌<◌, ◌≤◌, ◌-◌, ℕ, length, map}
use Rattle.std.specs.Prelude.{slice_get}
use Rattle.guest_windows.specs.Fields.{pairs}
use Rattle.its_numbers.specs.Lists.{SameRest, stretch_out}
use Rattle.its_numbers.proofs.lists.put_tables.Given as goal

-- the first of them are told, and the rest of the list is as it was
abbrev pub invariant-loop-at : goal.invariant-loop-at
invariant-loop-at l = record {
  same_length : length l.list ≡ length l.initial.list;
  low : l.at ≤ length l.tables;
  told : (i : ℕ) → i < l.at → slice_get l.list i ≡ slice_get (map stretch_out (pairs l.tables)) i;
  rest : SameRest l.at l.initial.list l.list;
}

abbrev pub decreases-loop-at : goal.decreases-loop-at
decreases-loop-at l = length l.tables - l.at
