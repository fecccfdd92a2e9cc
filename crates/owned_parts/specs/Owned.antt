-- The state of the plain translators that parts in hand stand for.
use Rattle.std.specs.Prelude.{◌≡◌, ◌<◌, ℕ, List, [], ◌∷◌, map, slice_get, Option, Some, None}
use Rattle.std.specs.List.{range_with_len}
use Rattle.std.specs.Option.{option_map}
use Rattle.gits_regs.specs.Registers.{Registers}
use Rattle.guest_windows.specs.Windows.{Window}
use Rattle.its_types.specs.Maps.{Maps}
use Rattle.its_types.specs.declared.machine.Shape.{Shape}
use Rattle.its_plain.specs.Plain.{Plain, Translator, Redistributor, ConfState, PendState, conf_of, pend_of, joined, no_redistributor}
use Rattle.its_plain.specs.declared.layout.Layout.{Layout}
use Rattle.its_plain.specs.Sound.{IsSound}
pub use Rattle.its_plain.specs.Machine.{layout_of}
pub use Rattle.lpi_config.specs.Conf.{conf_state}
pub use Rattle.lpi_pending.specs.InHand.{RedistParts, pend_state, redistributor_of, HasLpisOfConf, HasLpisOfPend}
use Rattle.lpi_pending.specs.InHand.{conf_in, pend_in}
use Rattle.dirty_log.specs.declared.tracked.Tracked.{Tracked}
use Rattle.owned_parts.specs.declared.parts.Parts.{Parts}
use Rattle.owned_parts.specs.declared.parts.Translator.{Translator as TranslatorInHand}
use Rattle.owned_parts.specs.declared.in_place.TranslatorRef.{TranslatorRef}
use Rattle.owned_parts.specs.declared.in_place.InPlace.{InPlace}
use Rattle.lpi_config.specs.Conf.{Conf}
use Rattle.lpi_pending.specs.Pend.{Pend}

-- ---- some parts of a state

-- the configuration in hand is the one that the state has for the virtual processor
pub record IsConfOf (u : Plain) (vcpu : ℕ) (c : Conf) : Type 0 where
  pub lpis : HasLpisOfConf u.layout.shape c
  pub same : option_map conf_of (slice_get u.redistributors vcpu) ≡ Some (conf_state c)

-- so is what is pending
pub record IsPendOf (u : Plain) (vcpu : ℕ) (p : Pend) : Type 0 where
  pub lpis : HasLpisOfPend u.layout.shape p
  pub same : option_map pend_of (slice_get u.redistributors vcpu) ≡ Some (pend_state p)

abbrev pub AreConfsOf : Plain → RedistParts → Type 0
AreConfsOf u redists = (vcpu : ℕ) (c : Conf) → conf_in redists vcpu ≡ Some c → IsConfOf u vcpu c

abbrev pub ArePendsOf : Plain → RedistParts → Type 0
ArePendsOf u redists = (vcpu : ℕ) (p : Pend) → pend_in redists vcpu ≡ Some p → IsPendOf u vcpu p

abbrev pub AreRedistributorsOf : Plain → RedistParts → Type 0
AreRedistributorsOf u redists = AreConfsOf u redists × ArePendsOf u redists

-- what is in hand is what the state has: translator number i, guest memory, and some parts of redistributors
pub record ArePartsOf (u : Plain) (i : ℕ) (shape : Shape) (regs : Registers) (maps : Maps) (memory : List Window) (redists : RedistParts) : Type 0 where
  pub shape_is : u.layout.shape ≡ shape
  pub translator_is : slice_get u.translators i ≡ Some (record { regs = regs; maps = maps })
  pub memory_is : u.memory ≡ memory
  pub redistributors_are : AreRedistributorsOf u redists

-- it is what some sound state has
abbrev pub ArePartsOfSound : Shape → Registers → Maps → List Window → RedistParts → Type 0
ArePartsOfSound shape regs maps memory redists = (u : Plain) × (i : ℕ) × IsSound u × ArePartsOf u i shape regs maps memory redists

-- ---- all parts of a state

-- the configuration of a virtual processor is in hand
abbrev pub HasConf : Shape → RedistParts → ℕ → Type 0
HasConf shape redists vcpu = (c : Conf) × (conf_in redists vcpu ≡ Some c) × HasLpisOfConf shape c

-- so is what is pending there
abbrev pub HasPend : Shape → RedistParts → ℕ → Type 0
HasPend shape redists vcpu = (p : Pend) × (pend_in redists vcpu ≡ Some p) × HasLpisOfPend shape p

-- both parts of the redistributor of each virtual processor are in hand
abbrev pub AreAllInHand : Shape → RedistParts → Type 0
AreAllInHand shape redists = (vcpu : ℕ) → vcpu < shape.vcpus → HasConf shape redists vcpu × HasPend shape redists vcpu

abbrev pub conf_or : Option Conf → ConfState
conf_or None = conf_of no_redistributor
conf_or (Some c) = conf_state c

abbrev pub pend_or : Option Pend → PendState
pend_or None = pend_of no_redistributor
pend_or (Some p) = pend_state p

-- the redistributor of a virtual processor, of what is in hand
abbrev pub redistributor_in : RedistParts → ℕ → Redistributor
redistributor_in redists vcpu = joined (conf_or (conf_in redists vcpu)) (pend_or (pend_in redists vcpu))

-- those of the first n virtual processors
abbrev pub redistributors_in : ℕ → RedistParts → List Redistributor
redistributors_in n redists = map (redistributor_in redists) (range_with_len 0 n)

-- a translator, as the plain machine has it
abbrev pub translator_of : TranslatorInHand → Translator
translator_of t = record { regs = t.regs; maps = t.maps.maps }

-- the first, and the second if there is one
abbrev pub one_or_two : Translator → Option Translator → List Translator
one_or_two first None = first ∷ []
one_or_two first (Some second) = first ∷ second ∷ []

abbrev pub translators_of : TranslatorInHand → Option TranslatorInHand → List Translator
translators_of first second = one_or_two (translator_of first) (option_map translator_of second)

abbrev pub state_of : Layout → List Translator → List Window → Option Tracked → RedistParts → Plain
state_of layout translators memory track redists = record {
  layout = layout;
  translators = translators;
  redistributors = redistributors_in layout.shape.vcpus redists;
  memory = memory;
  track = track;
}

abbrev pub state_of_parts : Parts → Plain
state_of_parts p = state_of p.layout (translators_of p.first p.second) p.memory p.track p.redists

-- ---- the same, where they stand

abbrev pub translator_at : TranslatorRef → Translator
translator_at t = record { regs = t.regs.now; maps = t.maps.now.maps }

abbrev pub translators_at : TranslatorRef → Option TranslatorRef → List Translator
translators_at first second = one_or_two (translator_at first) (option_map translator_at second)

abbrev pub track_at : InPlace → Option Tracked
track_at p = option_map (λ t. t.now) p.track

abbrev pub state_in_place : InPlace → Plain
state_in_place p = state_of p.layout.now (translators_at p.first p.second) p.memory.now (track_at p) p.redists.now
