-- Whom a step concerns, and what it may answer.
use Rattle.std.specs.Prelude.{◌≡◌, ◌⊎◌, ◌<◌, ℕ, List, true, false, slice_get}
use Rattle.its_numbers.specs.Codes as codes
use Rattle.its_plain.specs.Plain.{Plain}
use Rattle.its_types.specs.Bitmap.{word_bit}
use Rattle.its_types.specs.Ranges.{most_vcpus}
use Rattle.step_views.specs.Concern.{IsConcerned}

-- a virtual processor whose bit is clear is as it was
abbrev pub UnconcernedStay : List ℕ → Plain → Plain → Type 0
UnconcernedStay concerned u w =
    (vcpu : ℕ) → vcpu < most_vcpus → word_bit concerned vcpu ≡ false → slice_get w.redistributors vcpu ≡ slice_get u.redistributors vcpu

-- one whose bit is set had its pending LPIs or its configuration read or changed by a command that a translator didn't refuse
abbrev pub AreConcerned : List ℕ → Plain → ℕ → Type 0
AreConcerned concerned u its = (vcpu : ℕ) → vcpu < most_vcpus → word_bit concerned vcpu ≡ true → IsConcerned u its vcpu

-- what a step may answer, of a handle with a machine that has the translator
abbrev pub IsStepCode : ℕ → Type 0
IsStepCode code = (code ≡ codes.done) ⊎ ((code ≡ codes.no_memory) ⊎ (code ≡ codes.full))
