-- Lists that a caller lends, of which the first places are told, as many as there are or as the list has.
use Rattle.std.specs.Prelude.{◌≡◌, ◌<◌, ◌≤◌, ℕ, List, length, slice_get, slice_index}
use Rattle.its_numbers.specs.declared.lists.StretchOut.{StretchOut}

-- a list has the first of some numbers, as many as it takes
abbrev pub HasFirst : List ℕ → List ℕ → Type 0
HasFirst numbers list = (i : ℕ) → i < length numbers → i < length list → slice_index list i ≡ slice_index numbers i

-- a list is as it was from a place on
abbrev pub SameFrom : ℕ → List ℕ → List ℕ → Type 0
SameFrom n before after = (i : ℕ) → n ≤ i → slice_index after i ≡ slice_index before i

-- the same of other items than numbers
abbrev pub HasFirstOf : {A : Type 0} → List A → List A → Type 0
HasFirstOf items list = (i : ℕ) → i < length items → i < length list → slice_get list i ≡ slice_get items i

abbrev pub SameRest : {A : Type 0} → ℕ → List A → List A → Type 0
SameRest n before after = (i : ℕ) → n ≤ i → slice_get after i ≡ slice_get before i

-- a stretch of guest memory, as it is told
abbrev pub stretch_out : ℕ × ℕ → StretchOut
stretch_out s = record { address = s.0; length = s.1 }
