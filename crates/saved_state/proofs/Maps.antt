-- The tables of a translator, as saved memory has them.
use Rattle.std.proofs.Common.{◌≡◌, ℕ, ◌*◌, ◌^◌, ◌<◌, Bool, true, cond, List, [], ◌∷◌, ◌++◌, Some, sym, subst, ◌∙◌, ◌↔◌}
use Rattle.std.specs.Prelude.{slice_get}
use Rattle.std.specs.List.{AllByRecursion}
use Rattle.std.specs.FinMap.{entries, get-entries}
use Rattle.gits_regs.specs.Registers.{is_valid, table_base, collection_places}
use Rattle.guest_windows.specs.Windows.{Window, number_at}
use Rattle.std.proofs.lemmas.Option.{same_Some}
use Rattle.std.proofs.lemmas.Nat.{pow_pos}
use Rattle.baser_place.specs.Places.{entry_address}
use Rattle.its_types.specs.Maps.{Maps, device_of, event_of, collection_of}
use Rattle.its_types.specs.declared.machine.Shape.{Shape}
use Rattle.its_types.specs.declared.translation.Device.{Device}
use Rattle.its_types.specs.declared.translation.Event.{Event}
use Rattle.its_plain.specs.EventTables.{itt_of, IsIttClear, HasEvent}
use Rattle.its_types.specs.declared.ids.Vcpu.{Vcpu}
use Rattle.its_plain.specs.Plain.{Plain, Translator}
use Rattle.its_plain.specs.Sound.{IsSound, IsTranslator}
use Rattle.its_plain.specs.Regions.{collection_pages}
use Rattle.its_plain.specs.CollectionTables.{collection_address, HasCollection, AreCollectionsClear}
use Rattle.its_plain.specs.Saved.{saved, translator_words, device_words, collection_words, itt_words, collection_word, event_word, event_after, IsSavable}
use Rattle.its_types.specs.Maps.{events_at}
use Rattle.standing_states.proofs.EventsOf.{events_rise, find_of_device, after_of_device}
use Rattle.saved_state.specs.Laws.{CollectionsStand, NamedCollectionsStand, EventsStand}
use Rattle.saved_state.proofs.Chains.{IsChain, chain_of}
use Rattle.saved_state.proofs.Events.{Fits, itt_clear, events_are}
use Rattle.saved_state.proofs.Small as small
use Rattle.saved_state.proofs.Areas.{all_left, all_right}
use Rattle.saved_state.proofs.Keyed.{found_listed}
use Rattle.saved_state.proofs.Found.{IsFound, of_flat, translator_found}
use Rattle.saved_state.proofs.Collections.{entry_stands, collections_clear, collections_are}
use Rattle.saved_state.proofs.Entered.{named_place}

-- ---- which tables are there

collections_found : (s : Shape) (memory : List Window) (t : Translator) → is_valid t.regs.baser1 ≡ true → AllByRecursion (IsFound memory) (collection_words s t)
    → (i : ℕ) → i < collection_places t.regs → number_at memory (collection_address t.regs i) ≡ Some (collection_word s t i)
collections_found s memory t valid all =
    let here = subst (λ (v : Bool). AllByRecursion (IsFound memory)
    (cond v (record { base = table_base t.regs.baser1; count = 8192 * collection_pages t.regs; word = collection_word s t } ∷ []) [])) valid all in
    here.0

module _ (u : Plain) (k : ℕ) (t : Translator) (sound : IsSound u) (savable : IsSavable u) (at : slice_get u.translators k ≡ Some t) where
  fits : IsTranslator u.layout.shape t
  fits = sound.translators k t at

  in_memory : AllByRecursion (IsFound (saved u)) (collection_words u.layout.shape t)
  unfolding translator_words
  in_memory =
      let all = translator_found u k t sound savable at in
      let collections = collection_words u.layout.shape t in
      all_right (IsFound (saved u)) (device_words t u.memory) collections (all_left (IsFound (saved u)) (device_words t u.memory ++ collections)
      (itt_words t.maps) all)

  clear : AreCollectionsClear u.layout.shape (saved u) t.regs
  clear valid =
      collections_clear u.layout.shape (saved u) t fits valid sound.layout.shape.most_vcpus
      (collections_found u.layout.shape (saved u) t valid in_memory) valid

  are : (icid : ℕ) (v : Vcpu) → (collection_of t.maps icid ≡ Some v) ↔ HasCollection u.layout.shape (saved u) t.regs icid v
  are icid v =
      let both : is_valid t.regs.baser1 ≡ true → (collection_of t.maps icid ≡ Some v) ↔ HasCollection u.layout.shape (saved u) t.regs icid v =
      λ valid. collections_are u.layout.shape (saved u) t fits valid sound.layout.shape.most_vcpus
      (collections_found u.layout.shape (saved u) t valid in_memory) icid v in
      (λ e. (both (fits.collections icid v e).table).0 e, λ h. (both h.0).1 h)

pub collections_stand : CollectionsStand
collections_stand u k t sound savable at = record { clear = clear u k t sound savable at; are = are u k t sound savable at }

pub named_stand : NamedCollectionsStand
named_stand u k t dev ev e sound savable at linux valid is low =
    let s = u.layout.shape in
    let there = named_place s t dev ev e linux low is in
    entry_stands s (saved u) t (fits u k t sound savable at) valid sound.layout.shape.most_vcpus
    (collections_found s (saved u) t valid (in_memory u k t sound savable at)) there.1 e.icid.0 there.0 there.2

-- ---- interrupt translation tables

itt_in : (m : Maps) (memory : List Window) → AllByRecursion (IsFound memory) (itt_words m) → (dev : ℕ) (d : Device) → device_of m dev ≡ Some d
    → (ev : ℕ) → ev < 2 ^ d.bits → number_at memory (entry_address d.itt.0 ev) ≡ Some (event_word m dev ev)
itt_in m memory all dev d is =
    let at = found_listed (entries m.devices) dev d (sym (get-entries m.devices dev) ∙ is) in
    (of_flat (IsFound memory) (λ d. record { base = d.1.itt.0; count = 2 ^ d.1.bits; word = event_word m d.0 } ∷ []) (entries m.devices) all at.0
    (dev, d) at.1).0

pub events_linked : (m : Maps) (dev : ℕ) → IsChain (event_of m dev) (event_after m dev)
events_linked m dev =
    chain_of (event_of m dev) (event_after m dev) (events_at m dev) (events_rise m dev)
    (λ ev. get-entries m.events (dev, ev) ∙ sym (find_of_device dev ev (entries m.events))) (λ ev. sym (after_of_device dev ev (entries m.events)))

module _ (u : Plain) (k : ℕ) (t : Translator) (sound : IsSound u) (savable : IsSavable u) (at : slice_get u.translators k ≡ Some t) (dev : ℕ) (d : Device)
    (is : device_of t.maps dev ≡ Some d) where
  itts_in_memory : AllByRecursion (IsFound (saved u)) (itt_words t.maps)
  unfolding translator_words
  itts_in_memory =
      let all = translator_found u k t sound savable at in
      all_right (IsFound (saved u)) (device_words t u.memory ++ collection_words u.layout.shape t) (itt_words t.maps) all

  events_fit : (ev : ℕ) (e : Event) → event_of t.maps dev ev ≡ Some e → Fits u.layout.shape.lpi_bits (itt_of dev d) ev e
  events_fit ev e there =
      let h = (sound.translators k t at).events dev ev e there in
      let same : h.device ≡ d = same_Some h.device d (sym h.device_is ∙ is) in
      let low = small.events_fit u.layout.shape sound.layout.shape t (sound.translators k t at) dev ev e there in
      record { in_table = subst (λ (x : Device). ev < 2 ^ x.bits) same h.in_bits; lpi = h.lpi; intid = low.intid; icid = low.icid }

  some_events : 0 < 2 ^ d.bits
  some_events = pow_pos d.bits

  pub itt_is_clear : IsIttClear (saved u) u.layout.shape.lpi_bits (itt_of dev d)
  itt_is_clear =
      itt_clear (saved u) u.layout.shape.lpi_bits t.maps dev (itt_of dev d) some_events (itt_in t.maps (saved u) itts_in_memory dev d is) events_fit
      (events_linked t.maps dev)

  pub itt_has : (ev : ℕ) (e : Event) → (event_of t.maps dev ev ≡ Some e) ↔ HasEvent (saved u) (itt_of dev d) ev e
  itt_has =
      events_are (saved u) u.layout.shape.lpi_bits t.maps dev (itt_of dev d) some_events (itt_in t.maps (saved u) itts_in_memory dev d is) events_fit
      (events_linked t.maps dev)

pub events_stand : EventsStand
events_stand u k t dev d sound savable at is = record { clear = itt_is_clear u k t sound savable at dev d is; are = itt_has u k t sound savable at dev d is }
