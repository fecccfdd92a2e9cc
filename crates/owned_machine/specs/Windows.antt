-- Guest memory that has one window more.
use Rattle.std.specs.Prelude.{ℕ, Bool, List, [], ◌∷◌, ◌++◌, map}
use Rattle.guest_windows.specs.Windows.{Window, are_windows, extent, zeros}
use Rattle.its_plain.specs.Plain.{Plain}
use Rattle.its_plain.specs.Saved.{track_of}

-- a memory can have this window, a base and a length, besides those that it has
abbrev pub can_have : List Window → ℕ × ℕ → Bool
can_have memory w = are_windows (map extent memory ++ w ∷ [])

-- memory with it, all zeros, after the others
abbrev pub grown : List Window → ℕ × ℕ → List Window
grown memory w = memory ++ zeros w ∷ []

-- the state with it; the second memory begins anew, where there is one: all zeros, with every page dirty
abbrev pub with_window : Plain → ℕ × ℕ → Plain
with_window u w = record u { memory = grown u.memory w; track = track_of u.layout.track (grown u.memory w) }
