-- What is left of a machine.
use Rattle.std.specs.Prelude.{◌≡◌, ℕ, ◌*◌, ◌<◌, ◌≤◌, Bool, true, false, slice_index_or, Option, Some, None, List, Box}
use Rattle.std.specs.Global.{Global}
use mathlib.Core.Option.{some}
use lib.ListN.{get_elem?}
use Rattle.its_plain.specs.Plain.{Plain}
use Rattle.lpi_config.specs.Conf.{Conf}
use Rattle.lpi_pending.specs.Pend.{Pend}
use Rattle.owned_parts.specs.Owned.{ArePartsOf, IsConfOf, IsPendOf, translators_of}
use Rattle.owned_parts.specs.declared.parts.Parts.{Parts}
use Rattle.owned_parts.specs.declared.parts.Translator.{Translator as TranslatorInHand}
use Rattle.its_steps.specs.Parts.{Setup, vcpu_count}
use Rattle.its_turns.specs.declared.value.GuestMemory.{GuestMemory}
use Rattle.its_turns.specs.declared.value.Value.{Value}
use Rattle.its_turns.specs.declared.value.Value.TheVariants.{Maps, Mem, Conf as ConfOf, Pend as PendOf}

-- of so many slots, of which some are filled still, just those below n were taken
abbrev pub AreTaken : ℕ → ℕ → List Bool → Type 0
AreTaken n count filled = ((k : ℕ) → k < n → slice_index_or filled k false ≡ false) × ((k : ℕ) → n ≤ k → k < count → slice_index_or filled k false ≡ true)

-- a translator stands in the slot of its number
abbrev pub HasTranslatorAt : ℕ → List Value → Type 0
HasTranslatorAt its xs = (b : Box TranslatorInHand Global) × (get_elem? xs (8 * its) ≡ some (Maps b))

-- and it is this one
abbrev pub IsTranslatorAt : ℕ → List Value → TranslatorInHand → Type 0
IsTranslatorAt its xs t = (b : Box TranslatorInHand Global) × (get_elem? xs (8 * its) ≡ some (Maps b)) × (b.value ≡ t)

-- guest memory stands in the slot of the part of this number
abbrev pub HasMemoryAt : ℕ → List Value → Type 0
HasMemoryAt part xs = (b : Box GuestMemory Global) × (get_elem? xs (8 * part) ≡ some (Mem b))

-- and it is this one
abbrev pub IsMemoryAt : ℕ → List Value → GuestMemory → Type 0
IsMemoryAt part xs g = (b : Box GuestMemory Global) × (get_elem? xs (8 * part) ≡ some (Mem b)) × (b.value ≡ g)

-- a configuration stands there
abbrev pub HasConfAt : ℕ → List Value → Type 0
HasConfAt part xs = (b : Box Conf Global) × (get_elem? xs (8 * part) ≡ some (ConfOf b))

-- what is pending stands there
abbrev pub HasPendAt : ℕ → List Value → Type 0
HasPendAt part xs = (b : Box Pend Global) × (get_elem? xs (8 * part) ≡ some (PendOf b))

-- those below n are in their places, each as it is said of it, and no other is
pub record AreBelow (T : Type 0) (is : ℕ → T → Type 0) (n : ℕ) (places : List (Option T)) : Type 0 where
  pub below : (vcpu : ℕ) → vcpu < n → (x : T) × (slice_index_or places vcpu None ≡ Some x) × is vcpu x
  pub others : (vcpu : ℕ) → n ≤ vcpu → slice_index_or places vcpu None ≡ None

-- all parts of a state
pub record AreAllParts (s : Setup) (u : Plain) (p : Parts) : Type 0 where
  pub layout : p.layout ≡ u.layout
  pub translators : translators_of p.first p.second ≡ u.translators
  pub parts : ArePartsOf u 0 s.start.layout.shape p.first.regs p.first.maps.maps p.memory p.redists
  pub track : p.track ≡ u.track
  pub confs : AreBelow Conf (IsConfOf u) (vcpu_count s) p.redists.confs
  pub pends : AreBelow Pend (IsPendOf u) (vcpu_count s) p.redists.pends
