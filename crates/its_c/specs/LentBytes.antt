-- Memory that is lent for a step: that of the machine's windows, zero but for the bytes of some stretches.
use Rattle.std.specs.Prelude.{ℕ, ◌-◌, Bool, ◌&&◌, ◌==◌, nat_le, List, [], ◌∷◌, take, drop, map}
use Rattle.guest_windows.specs.Windows.{Window, extent, zeros}
use Rattle.its_numbers.specs.Translators.{has_translator}
use Rattle.its_numbers.specs.declared.lists.StretchOut.{StretchOut}
use Rattle.its_plain.specs.Plain.{Plain}
use Rattle.owned_machine.specs.Lent.{on, left_on}
use Rattle.owned_machine.specs.Pieces.{with_bytes}

-- the stretches take n bytes together
abbrev pub stretches_fit : List StretchOut → ℕ → Bool
stretches_fit [] n = n == 0
stretches_fit (s ∷ list) n = nat_le s.length n && stretches_fit list (n - s.length)

-- there is such a translator, and they do
abbrev pub may_step_with : Plain → ℕ → List StretchOut → ℕ → Bool
may_step_with u its list n = has_translator u its && stretches_fit list n

-- memory once each stretch has the next of these bytes; one that doesn't lie in one window is passed over, with its bytes
abbrev pub laid : List Window → List StretchOut → List ℕ → List Window
laid memory [] bytes = memory
laid memory (s ∷ list) bytes = laid (with_bytes memory s.address (take s.length bytes)) list (drop s.length bytes)

abbrev pub lent_memory : List Window → List StretchOut → List ℕ → List Window
lent_memory memory list bytes = laid (map zeros (map extent memory)) list bytes

-- the state on that memory
abbrev pub lent : Plain → List StretchOut → List ℕ → Plain
lent u list bytes = on (lent_memory u.memory list bytes) u

-- what the step of a translator leaves that is made on it: guest memory is as it was
abbrev pub lent_left : Plain → ℕ → List StretchOut → List ℕ → Plain
lent_left u its list bytes = left_on (lent_memory u.memory list bytes) u its
