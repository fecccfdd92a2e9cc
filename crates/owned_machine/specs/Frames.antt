-- Frames beside what is taken already.
use Rattle.std.specs.Prelude.{ℕ, Bool, true, List, ◌∷◌, Option, Some, None}
use Rattle.its_types.specs.declared.ids.Addr.{Addr}
use Rattle.its_plain.specs.Doorbells.{frames_size}
use Rattle.its_plain.specs.Machine.{frames_fit}

-- frames as a stretch
abbrev pub place_of : Addr → ℕ × ℕ
place_of base = (base.0, frames_size)

-- a list of stretches with those of some frames, if they stand anywhere
abbrev pub taken_with : Option Addr → List (ℕ × ℕ) → List (ℕ × ℕ)
taken_with None taken = taken
taken_with (Some base) taken = place_of base ∷ taken

abbrev pub fits_beside : List (ℕ × ℕ) → Option Addr → Bool
fits_beside taken None = true
fits_beside taken (Some base) = frames_fit taken base
