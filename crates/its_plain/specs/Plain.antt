-- The state of the plain translators: no cache, no lock, no table walk.
use Rattle.std.specs.Prelude.{ℕ, Bool, true, false, List, slice_index_or, slice_set, Option, ◌≡◌, refl}
use Rattle.std.specs.Coded.{Coded, code_by, coded×, coded_ℕ, coded_list, coded_bool, coded_option}
use Rattle.guest_windows.specs.Windows.{Window}
use Rattle.dirty_log.specs.Pages.{page_code}
use Rattle.dirty_log.specs.declared.page.Page.{Page}
use Rattle.dirty_log.specs.declared.tracked.Tracked.{Tracked}
use Rattle.gits_regs.specs.Registers.{Registers, registers_code, reset}
use Rattle.its_types.specs.Maps.{Maps, no_maps, maps_code}
use Rattle.its_types.specs.Lpis.{bases_code}
pub use Rattle.its_types.specs.Lpis.{no_bases}
pub use Rattle.gicr_regs.specs.Redistributors.{Redistributor, redistributor_code, no_redistributor}
pub use Rattle.gicr_regs.specs.Redistributors.{ConfState, PendState, conf_of, pend_of, with_conf, with_pend, joined}
pub use Rattle.its_plain.specs.declared.layout.Layout.{Layout}
use Rattle.its_types.specs.declared.machine.Shape.{Shape}
use Rattle.its_types.specs.declared.machine.Profile.{Profile}
use Rattle.its_types.specs.declared.machine.Profile.TheVariants.{One, Two}
use Rattle.its_types.specs.declared.translation.Bases.{Bases}

-- an Interrupt Translation Service: its registers and its maps (IHI 0069, chapter 5)
pub record Translator : Type 0 where
  pub regs : Registers
  pub maps : Maps

pub record Plain : Type 0 where
  pub layout : Layout
  pub translators : List Translator
  -- one for each virtual processor
  pub redistributors : List Redistributor
  -- guest memory
  pub memory : List Window
  -- its copy, and the pages in which the two may differ, where the machine has one
  pub track : Option Tracked

-- ---- parts of a state

abbrev pub no_translator : Translator
no_translator = record { regs = reset 16; maps = no_maps }

abbrev pub translator : Plain → ℕ → Translator
translator u i = slice_index_or u.translators i no_translator

abbrev pub redistributor : Plain → ℕ → Redistributor
redistributor u vcpu = slice_index_or u.redistributors vcpu no_redistributor

abbrev pub regs_of : Plain → ℕ → Registers
regs_of u i = (translator u i).regs

abbrev pub maps_of : Plain → ℕ → Maps
maps_of u i = (translator u i).maps

abbrev pub pending_of : Plain → ℕ → List ℕ
pending_of u vcpu = (redistributor u vcpu).pending

-- whether a virtual processor's LPIs are on
abbrev pub is_on : Plain → ℕ → Bool
is_on u vcpu = (redistributor u vcpu).accepts

abbrev pub with_translator : Plain → ℕ → Translator → Plain
with_translator u i t = record u { translators = slice_set u.translators i t }

abbrev pub with_maps : Plain → ℕ → Maps → Plain
with_maps u i maps = with_translator u i (record (translator u i) { maps = maps })

abbrev pub with_regs : Plain → ℕ → Registers → Plain
with_regs u i regs = with_translator u i (record (translator u i) { regs = regs })

abbrev pub with_redistributor : Plain → ℕ → Redistributor → Plain
with_redistributor u vcpu r = record u { redistributors = slice_set u.redistributors vcpu r }

abbrev pub with_pending : Plain → ℕ → List ℕ → Plain
with_pending u vcpu pending = with_redistributor u vcpu (record (redistributor u vcpu) { pending = pending })

-- ---- a code for each part, by which models tell values apart

abbrev is_two : Profile → Bool
is_two One = false
is_two Two = true

abbrev profile_of : Bool → Profile
profile_of false = One
profile_of true = Two

abbrev profile_back : (p : Profile) → profile_of (is_two p) ≡ p
profile_back One = refl
profile_back Two = refl

abbrev coded_profile : Coded Profile
coded_profile = code_by Bool coded_bool is_two profile_of profile_back

abbrev coded_shape : Coded Shape
coded_shape =
    code_by (((ℕ × ℕ) × (ℕ × Profile)) × Bool) (coded× (coded× (coded× coded_ℕ coded_ℕ) (coded× coded_ℕ coded_profile)) coded_bool)
    (λ s. (((s.vcpus, s.dev_bits), (s.lpi_bits, s.profile)), s.linux))
    (λ p. record {
      vcpus = p.0.0.0;
      dev_bits = p.0.0.1;
      lpi_bits = p.0.1.0;
      profile = p.0.1.1;
      linux = p.1;
    })
    (λ _. refl)

abbrev coded_window : Coded Window
coded_window = code_by (ℕ × List ℕ) (coded× coded_ℕ (coded_list coded_ℕ)) (λ w. (w.base, w.bytes)) (λ p. record { base = p.0; bytes = p.1 }) (λ _. refl)

abbrev pub translator_code : Coded Translator
translator_code = code_by (Registers × Maps) (coded× registers_code maps_code) (λ t. (t.regs, t.maps)) (λ p. record { regs = p.0; maps = p.1 }) (λ _. refl)

abbrev coded_layout : Coded Layout
coded_layout =
    code_by (Shape × (Bool × (List Bases × Bool))) (coded× coded_shape (coded× coded_bool (coded× (coded_list bases_code) coded_bool)))
    (λ l. (l.shape, (l.gicr, (l.described, l.track)))) (λ p. record { shape = p.0; gicr = p.1.0; described = p.1.1.0; track = p.1.1.1 }) (λ _. refl)

abbrev coded_tracked : Coded Tracked
coded_tracked =
    code_by (List Window × List Page) (coded× (coded_list coded_window) (coded_list page_code)) (λ t. (t.copy, t.log)) (λ p. record { copy = p.0; log = p.1 })
    (λ _. refl)

abbrev pub plain_code : Coded Plain
plain_code =
    code_by ((Layout × List Translator) × (List Redistributor × (List Window × Option Tracked))) (coded× (coded× coded_layout (coded_list translator_code))
    (coded× (coded_list redistributor_code) (coded× (coded_list coded_window) (coded_option coded_tracked))))
    (λ u. ((u.layout, u.translators), (u.redistributors, (u.memory, u.track))))
    (λ p. record { layout = p.0.0; translators = p.0.1; redistributors = p.1.0; memory = p.1.1.0; track = p.1.1.1 })
    (λ _. refl)
