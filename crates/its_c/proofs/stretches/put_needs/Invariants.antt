use Rattle.std.proofs.Common.{◌≡◌, ◌<◌, ◌+◌, ℕ, drop, length, map}
use Rattle.std.specs.Prelude.{slice_get}
use Rattle.its_numbers.specs.Lists.{SameRest, stretch_out}
use Rattle.its_c.proofs.stretches.put_needs.Given as goal

-- the first of them are told, and the rest of the list is as it was
abbrev pub invariant-loop-stretch : goal.invariant-loop-stretch
invariant-loop-stretch l = record {
  can_next : (goal.iterator-loop-stretch).can_next l.stretch-iterator;
  is_finite : (goal.iterator-loop-stretch).is_finite l.stretch-iterator;
  left : drop l.at l.fn.needs ≡ l.stretch-iterator;
  count : l.at + length l.stretch-iterator ≡ length l.fn.needs;
  same_length : length l.list ≡ length l.initial.list;
  told : (i : ℕ) → i < l.at → i < length l.list → slice_get l.list i ≡ slice_get (map stretch_out l.fn.needs) i;
  rest : SameRest l.at l.initial.list l.list;
}
