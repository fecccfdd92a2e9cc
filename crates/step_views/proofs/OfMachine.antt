-- What a machine says of a translator that is lent.
use Rattle.std.proofs.Common.{◌≡◌, ℕ, Option, Some, None, List, refl, sym, ap, ◌∙◌}
use Rattle.std.specs.Prelude.{not, ◌||◌}
use Rattle.gits_regs.specs.Registers.{is_queue_empty}
use Rattle.its_command.specs.declared.command.Command.{Command}
use Rattle.std.specs.FinMap.{entries, len-entries, len-empty}
use Rattle.its_types.specs.Maps.{no_maps, pair_cmp}
use Rattle.its_types.specs.declared.translation.Event.{Event}
use Rattle.its_plain.specs.Plain.{Plain, Translator, no_translator, translator, regs_of}
use Rattle.its_plain.specs.Sound.{IsTranslator}
use Rattle.its_plain.specs.declared.call.StepReply.TheVariants.{Idle}
use Rattle.cmd_exec.specs.Met.{MeetsNone}
use Rattle.cmd_exec.specs.Needs.{AreTargets, AreNeededInHand}
use Rattle.std.specs.Option.{option_map}
use Rattle.owned_parts.specs.Owned.{ArePartsOf, state_of_parts, state_in_place, translator_at, translators_of}
use Rattle.owned_parts.specs.declared.in_place.InPlace.{InPlace}
use Rattle.owned_parts.specs.declared.in_place.TranslatorRef.{TranslatorRef}
use Rattle.owned_parts.specs.declared.parts.Parts.{Parts}
use Rattle.owned_machine.specs.Whole.{IsMachine}
use Rattle.owned_machine.proofs.Kept.{redists_are, same_redists}
use Rattle.owned_machine.specs.Lent.{on}
use Rattle.guest_windows.specs.Windows.{Window}
use Rattle.owned_machine.proofs.Lists.{found_at, not_found}
use Rattle.owned_machine.proofs.Stepped.{needed_held, holds_all}
use Rattle.table_save.specs.Areas.{HaveLowTables}
use Rattle.table_save.proofs.SoundState.{redistributors_low}
use Rattle.std.specs.Prelude.{slice_get, length}
use Rattle.std.specs.Ordering.{nat_cmp}
use Rattle.its_types.specs.declared.translation.Device.{Device}
use Rattle.step_views.specs.Counts.{device_count, event_count}
use Rattle.step_views.specs.Lent.{IsNumber, IsTranslatorOf}

pub low_tables : (p : Parts) → IsMachine p → HaveLowTables p.layout.shape p.redists
low_tables p m = redistributors_low p.layout (translators_of p.first p.second) p.memory p.track p.redists m.sound

-- a translator that is lent by its number, or isn't there
module _ (p : Parts) (i : InPlace) (its : ℕ) (r : Option TranslatorRef) (state : state_in_place i ≡ state_of_parts p)
    (found : option_map translator_at r ≡ slice_get (state_in_place i).translators its) where
  pub lent_number : (t : TranslatorRef) → r ≡ Some t → IsNumber p t its
  lent_number t is = ap (λ (u : Plain). slice_get u.translators its) (sym state) ∙ sym found ∙ ap (option_map translator_at) is

  pub lent_none : r ≡ None → slice_get (state_of_parts p).translators its ≡ None
  lent_none is = ap (λ (u : Plain). slice_get u.translators its) (sym state) ∙ sym found ∙ ap (option_map translator_at) is

-- a translator that there isn't has nothing to do
pub none_idle : (u : Plain) (i : ℕ) → slice_get u.translators i ≡ None → MeetsNone (regs_of u i) u.memory Idle
none_idle u i none = ap (λ (t : Translator). not t.regs.enabled || is_queue_empty t.regs) (not_found u.translators i no_translator none)

module _ (p : Parts) (t : TranslatorRef) (m : IsMachine p) where
  -- also on other memory
  pub parts_of : (memory : List Window) (i : ℕ) → IsNumber p t i
      → ArePartsOf (on memory (state_of_parts p)) i p.layout.shape t.regs.now t.maps.now.maps memory p.redists
  parts_of memory i at = record {
    shape_is = refl;
    translator_is = at;
    memory_is = refl;
    redistributors_are = same_redists (state_of_parts p) (on memory (state_of_parts p)) p.redists refl refl (redists_are p m);
  }

  pub translator_is : (i : ℕ) → IsNumber p t i → translator (state_of_parts p) i ≡ translator_at t
  translator_is i at = found_at (state_of_parts p).translators i (translator_at t) no_translator at

  sound : (i : ℕ) → IsNumber p t i → IsTranslator p.layout.shape (translator_at t)
  sound i at = m.sound.translators i (translator_at t) at

  pub targets : IsTranslatorOf p t → AreTargets p.layout.shape t.maps.now.maps
  targets h = λ icid vcpu is. ((sound h.0 h.1).collections icid vcpu is).target

  pub needed : IsTranslatorOf p t → (c : Command) → AreNeededInHand p.layout.shape t.maps.now.maps c p.redists
  needed h c =
      needed_held p.layout.shape t.regs.now t.maps.now.maps p.memory p.redists c (state_of_parts p, h.0, m.sound, parts_of p.memory h.0 h.1) (holds_all p m)

  pub devices_there : (i : ℕ) → IsNumber p t i → length (entries t.maps.now.maps.devices) ≡ device_count (state_of_parts p) i
  devices_there i at = ap (λ (x : Translator). length (entries x.maps.devices)) (sym (translator_is i at))

  pub events_there : (i : ℕ) → IsNumber p t i → length (entries t.maps.now.maps.events) ≡ event_count (state_of_parts p) i
  events_there i at = ap (λ (x : Translator). length (entries x.maps.events)) (sym (translator_is i at))

-- of a translator that there isn't nothing is mapped
module _ (p : Parts) (its : ℕ) (none : slice_get (state_of_parts p).translators its ≡ None) where
  pub no_devices : device_count (state_of_parts p) its ≡ 0
  no_devices =
      ap (λ (x : Translator). length (entries x.maps.devices)) (not_found (state_of_parts p).translators its no_translator none)
      ∙ sym (len-entries no_maps.devices) ∙ len-empty nat_cmp Device

  pub no_events : event_count (state_of_parts p) its ≡ 0
  no_events =
      ap (λ (x : Translator). length (entries x.maps.events)) (not_found (state_of_parts p).translators its no_translator none)
      ∙ sym (len-entries no_maps.events) ∙ len-empty pair_cmp Event
