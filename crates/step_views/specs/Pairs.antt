-- Stretches of guest memory, each as its address and its length, of which each is told once.
use Rattle.std.specs.Prelude.{◌≡◌, ◌≤◌, ℕ, Bool, length, ◌&&◌, ◌==◌, if◌then◌else◌, List, [], ◌∷◌, ◌++◌, Option, Some, None}
use Rattle.std.specs.List.{list_any}
use Rattle.its_types.specs.Ranges.{most_vcpus}
use Rattle.step_views.specs.declared.stretch.Stretch.{Stretch}

abbrev pub pair_of : Stretch → ℕ × ℕ
pair_of s = (s.address.0, s.length)

abbrev pub is_same : ℕ × ℕ → ℕ × ℕ → Bool
is_same a b = a.0 == b.0 && a.1 == b.1

-- it is one of these
abbrev pub is_told : ℕ × ℕ → List (ℕ × ℕ) → Bool
is_told stretch told = list_any (is_same stretch) told

-- it too, if it is not one of them
abbrev pub with_stretch : List (ℕ × ℕ) → ℕ × ℕ → List (ℕ × ℕ)
with_stretch told stretch = if is_told stretch told then told else told ++ stretch ∷ []

-- others too, one after another
abbrev pub all_told : List (ℕ × ℕ) → List (ℕ × ℕ) → List (ℕ × ℕ)
all_told told [] = told
all_told told (stretch ∷ stretches) = all_told (with_stretch told stretch) stretches

-- ---- what is left to be told

-- a stretch, if there is one
abbrev pub one_left : Option Stretch → List (ℕ × ℕ)
one_left None = []
one_left (Some s) = pair_of s ∷ []

-- some, if there are any
abbrev pub more_left : Option (List (ℕ × ℕ)) → List (ℕ × ℕ)
more_left None = []
more_left (Some stretches) = stretches

abbrev pub all_left : Option Stretch → Option Stretch → Option (List (ℕ × ℕ)) → List (ℕ × ℕ)
all_left first second more = one_left first ++ one_left second ++ more_left more

-- these are the stretches, each once, that come after the 32 bytes of a command, wherever it is
pub record AreAfter (stretches told : List (ℕ × ℕ)) : Type 0 where
  pub each : (place : ℕ) → all_told ((place, 32) ∷ []) stretches ≡ (place, 32) ∷ told
  pub few : length told ≤ most_vcpus
