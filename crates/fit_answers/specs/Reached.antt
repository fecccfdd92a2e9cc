-- The lines of the calls of an order, as in a report with places.
use Rattle.std.specs.Prelude.{ℕ, ◌+◌, List, [], ◌∷◌, ◌++◌, codes, decimal, slice_index, slice_set, Option, Some, None}
use Rattle.its_fit.specs.Replays.{told_at}
use Rattle.its_fit.specs.declared.told.Answered.{Answered}

-- the call of a thread at a place; of threads the first is 0, and 1 in a line
unfoldable pub reached_line : ℕ → ℕ → List ℕ → List ℕ
reached_line place thread text = decimal place ++ codes " 1." ++ decimal (thread + 1) ++ codes " " ++ text ++ codes "\n"

-- how many calls of a thread went
abbrev pub count_of : List ℕ → ℕ → ℕ
count_of front thread = slice_index front thread

abbrev pub with_count : List ℕ → ℕ → ℕ → List ℕ
with_count front thread n = slice_set front thread n

-- A thread's next call, if it tells one, stands at a place, and others come after it.
abbrev pub next_line : Option Answered → List ℕ → ℕ → ℕ → (List ℕ → ℕ → List ℕ) → List ℕ
next_line None front place thread more = more front place
next_line (Some a) front place thread more =
    reached_line place thread a.text ++ more (with_count front thread (count_of front thread + 1)) (place + 1)

-- An order names a thread for each call. So many of each thread went before, and the first stands at a place.
abbrev pub reached_lines : List (List Answered) → List ℕ → ℕ → List ℕ → List ℕ
reached_lines told front place [] = []
reached_lines told front place (thread ∷ order) =
    next_line (told_at told thread (count_of front thread)) front place thread (λ now next. reached_lines told now next order)
