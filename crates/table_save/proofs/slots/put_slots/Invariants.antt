use Rattle.std.proofs.Common.{◌≡◌, ◌+◌, drop, length}
use Rattle.table_save.specs.Pass.{first_from, slot_words}
use Rattle.table_save.proofs.slots.put_slots.Given as goal

abbrev pub invariant-loop-i : goal.invariant-loop-i
invariant-loop-i l = record {
  size : length l.words ≡ length l.slots;
  words : drop l.i l.words ≡ slot_words (l.id + l.i) (drop l.i l.slots) l.fn.after;
  first : l.next ≡ first_from (l.id + l.i) (drop l.i l.slots) l.fn.after;
}
