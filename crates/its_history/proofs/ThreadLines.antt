-- The lines of a thread end where its calls or its replies end.
use Rattle.std.proofs.Common.{◌≡◌, ℕ, List, [], ◌∷◌, ◌++◌, length, refl, sym, ap, ◌∙◌, arith, append-nil}
use Rattle.its_types.specs.declared.machine.Placed.{Placed}
use Rattle.its_plain.specs.declared.call.Call.{Call}
use Rattle.its_plain.specs.declared.call.Reply.{Reply}
use Rattle.its_history.specs.declared.trace.EntryLine.{EntryLine}
use Rattle.its_history.specs.Merged.{thread_lines}

pub at_end_of_calls : (phase thread : ℕ) (cs : List Call) (rs : List (Placed Reply)) → length cs ≡ 0 → thread_lines phase thread cs rs ≡ []
at_end_of_calls phase thread [] rs e = refl
at_end_of_calls phase thread (c ∷ cs) rs e = absurd (omega arith)

pub at_end_of_replies : (phase thread : ℕ) (cs : List Call) (rs : List (Placed Reply)) → length rs ≡ 0 → thread_lines phase thread cs rs ≡ []
at_end_of_replies phase thread [] rs e = refl
at_end_of_replies phase thread (c ∷ cs) [] e = refl
at_end_of_replies phase thread (c ∷ cs) (r ∷ rs) e = absurd (omega arith)

pub nothing_more : (made rest all : List EntryLine) → rest ≡ [] → made ++ rest ≡ all → made ≡ all
nothing_more made rest all e h = sym (append-nil made) ∙ ap (λ ls. made ++ ls) (sym e) ∙ h
