use Rattle.std.proofs.Common.{◌≡◌, ℕ, ◌<◌, List, length, drop}
use Rattle.std.specs.Prelude.{slice_index, slice_get}
use Rattle.its_types.specs.declared.ids.Vcpu.{Vcpu}
use Rattle.its_plain.specs.Saved.{collection_entry}
use Rattle.table_save.specs.EntriesLeft.{Leaves}
use Rattle.table_save.proofs.collections.put_some.Given as goal

abbrev pub invariant-loop-i : goal.invariant-loop-i
invariant-loop-i l = record {
  size : length l.words ≡ l.count;
  words : (es : List (ℕ × Vcpu)) → Leaves l.fn.front es → (k : ℕ) → k < l.i → slice_index l.words k ≡ collection_entry (slice_get es k);
  left : (es : List (ℕ × Vcpu)) → Leaves l.fn.front es → Leaves l.front (drop l.i es);
}
