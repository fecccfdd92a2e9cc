use Rattle.std.proofs.Common.{ℕ, ◌≡◌, if◌then◌else◌, Some, take}
use Rattle.its_explain.specs.Book.{changer, writer, is_among}
use Rattle.call_facts.specs.declared.answers.Key.{Key}
use Rattle.its_explain.proofs.book.Book.changed.Given as goal

-- as far as the loop has come
abbrev pub invariant-loop-key : goal.invariant-loop-key
invariant-loop-key l =
    record {
      changers : (i : ℕ) (k : Key) → changer l.self i k ≡ (if is_among l.its (take l.key-index l.keys) i k then Some l.line else changer l.initial.self i k);
      writers : (a : ℕ) → writer l.self a ≡ writer l.initial.self a;
    }
