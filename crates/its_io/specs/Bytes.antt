-- What a source has left and a sink holds, where they tell it.
use Rattle.std.specs.Prelude.{◌≡◌, ◌↔◌, ℕ, ◌<◌, ◌≤◌, List, [], ◌++◌, length, take, drop, Option, Some, None, IfSome}

-- the first n bytes of what was left came to the beginning of the buffer
pub record Reads (left_before left_now : Option (List ℕ)) (buffer_before buffer_now : List ℕ) (n : ℕ) : Type 0 where
  pub fits : n ≤ length buffer_before
  pub taken : IfSome left_before (λ bytes. (n ≤ length bytes) × (take n buffer_now ≡ take n bytes) × (left_now ≡ Some (drop n bytes)))
  -- a buffer with room gets nothing just where nothing is left
  pub at_end : 0 < length buffer_before → IfSome left_before (λ bytes. (n ≡ 0) ↔ (bytes ≡ []))

-- where the sink tells its bytes now, it told them before, and they are those and these
abbrev pub Appends : Option (List ℕ) → Option (List ℕ) → List ℕ → Type 0
Appends before None bytes = Unit {0}
Appends before (Some now) bytes = (old : List ℕ) × (before ≡ Some old) × (now ≡ old ++ bytes)

-- the first n bytes of the piece were appended
pub record Writes (held_before held_now : Option (List ℕ)) (piece : List ℕ) (n : ℕ) : Type 0 where
  pub fits : n ≤ length piece
  pub some : 0 < length piece → 0 < n
  pub appended : Appends held_before held_now (take n piece)
