use Rattle.std.proofs.Common.{ℕ, ◌≡◌, None}
use Rattle.call_facts.specs.declared.answers.Key.{Key}
use Rattle.its_explain.specs.Book.{changer, writer, line_after, line_of}
use Rattle.its_explain.proofs.book.Book.of_fills.Given as goal

-- with those that are left it is the line of all
abbrev pub invariant-loop-fill : goal.invariant-loop-fill
invariant-loop-fill l =
    record {
      changers : (i : ℕ) (k : Key) → changer l.book i k ≡ None;
      writers : (a : ℕ) → line_after (writer l.book a) l.fill-iterator.a.rest.now l.fill-iterator.b.rest.now a ≡ line_of l.fills l.lines a;
    }
