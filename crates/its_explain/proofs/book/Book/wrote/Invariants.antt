use Rattle.std.proofs.Common.{ℕ, ◌≡◌, ◌≤◌, ◌+◌, if◌then◌else◌, Some}
use Rattle.its_explain.specs.Book.{changer, writer, slot_of, lies_in, last_slot}
use Rattle.call_facts.specs.declared.answers.Key.{Key}
use Rattle.its_explain.proofs.book.Book.wrote.Given as goal

-- as far as the loop has come
abbrev pub invariant-loop-slot : goal.invariant-loop-slot
invariant-loop-slot l =
    record {
      changers : (i : ℕ) (k : Key) → changer l.self i k ≡ changer l.initial.self i k;
      writers : (a : ℕ) → writer l.self a ≡ (if lies_in (slot_of l.addr) (slot_of a) l.slot then Some l.line else writer l.initial.self a);
      low : slot_of l.addr ≤ l.slot;
      high : l.slot ≤ l.slot-end;
      end : l.slot-end ≡ last_slot l.addr l.count + 1;
    }
