-- How the program puts an order together.
use Rattle.std.specs.Prelude.{◌≡◌, ◌≤◌, ◌<◌, ℕ, List, [], ◌∷◌, length, take, slice_index, Some}
use Rattle.std.specs.List.{AllByRecursion}
use Rattle.its_fit.specs.Explained.{Line, lines_by, told_by, IsMerge, AgreesWithTimes}
use Rattle.its_fit.specs.Replays.{told_at}
use Rattle.its_fit.specs.declared.replay.Made.{Made}
use Rattle.its_fit.specs.declared.told.Answered.{Answered}

-- the lines of these calls
abbrev pub AreLinesOf : List (List Answered) → List Made → List Line → Type 0
AreLinesOf threads [] [] = Unit {0}
AreLinesOf threads [] (l ∷ lines) = ⊥
AreLinesOf threads (m ∷ made) [] = ⊥
AreLinesOf threads (m ∷ made) (l ∷ lines) =
    (m.thread ≡ l.0) × (told_at threads m.thread m.call ≡ Some l.1) × AreLinesOf threads made lines

-- the first calls of each thread, as many as the front counts, in an order that agrees with their times
pub record IsSoFar (threads : List (List Answered)) (made : List Made) (front : List ℕ) (latest : ℕ) : Type 0 where
  pub lines : List Line
  pub are_lines : AreLinesOf threads made lines
  pub known : AllByRecursion (λ (l : Line). l.0 < length threads) lines
  pub counted : (i : ℕ) → lines_by i lines ≡ take (slice_index front i) (told_by threads i)
  pub times : AgreesWithTimes lines
  pub begun : AllByRecursion (λ (l : Line). l.1.span.begin ≤ latest) lines
  pub long : length front ≡ length threads

-- the front counts all calls
abbrev pub IsAll : List (List Answered) → List ℕ → Type 0
IsAll threads front = (i : ℕ) → i < length threads → length (told_by threads i) ≤ slice_index front i

-- all calls in such an order
pub record IsOrdered (threads : List (List Answered)) (made : List Made) : Type 0 where
  pub lines : List Line
  pub are_lines : AreLinesOf threads made lines
  pub merge : IsMerge threads lines
  pub times : AgreesWithTimes lines
