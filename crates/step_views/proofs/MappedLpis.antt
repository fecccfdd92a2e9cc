-- The LPIs of a collection's events are in range.
use Rattle.std.proofs.Common.{◌≡◌, ℕ, true, List, [], ◌∷◌, map, filter, Some, None, refl, sym, ap, ◌∙◌}
use Rattle.std.specs.Prelude.{◌==◌, slice_get}
use Rattle.std.specs.List.{AllByRecursion}
use Rattle.std.specs.FinMap as finmap
use Rattle.std.specs.FinMap.{get-empty}
use Rattle.its_types.specs.Maps.{Maps, event_of, no_maps, pair_cmp}
use Rattle.its_types.specs.Ranges.{is_lpi}
use Rattle.its_types.specs.declared.translation.Event.{Event}
use Rattle.its_plain.specs.Commands.{intids_of}
use Rattle.its_plain.specs.Plain.{Plain, Translator, no_translator, maps_of}
use Rattle.its_plain.specs.Sound.{IsSound}
use Rattle.plain_soundness.proofs.Lists.{all_filter}
use Rattle.owned_machine.proofs.Lists.{found_at, not_found}
use Rattle.owned_machine.proofs.AllEvents.{all_entries}

all_map : {X Y : Type 0} (Q : Y → Type 0) (f : X → Y) (xs : List X) → AllByRecursion (λ x. Q (f x)) xs → AllByRecursion Q (map f xs)
all_map Q f [] h = tt
all_map Q f (x ∷ xs) h = (h.0, all_map Q f xs h.1)

lpis_of : (bits : ℕ) (m : Maps) (icid : ℕ) → ((dev ev : ℕ) (event : Event) → event_of m dev ev ≡ Some event → is_lpi bits event.intid.0 ≡ true)
    → AllByRecursion (λ intid. is_lpi bits intid ≡ true) (intids_of m icid)
lpis_of bits m icid h =
    all_map (λ intid. is_lpi bits intid ≡ true) (λ e. e.1.intid.0) (filter (λ e. e.1.icid.0 == icid) (finmap.entries m.events))
    (all_filter (λ e. is_lpi bits e.1.intid.0 ≡ true) (λ e. e.1.icid.0 == icid) (finmap.entries m.events)
    (all_entries (λ dev ev event. is_lpi bits event.intid.0 ≡ true) m h))

pub collection_lpis : (u : Plain) (i icid : ℕ) → IsSound u
    → AllByRecursion (λ intid. is_lpi u.layout.shape.lpi_bits intid ≡ true) (intids_of (maps_of u i) icid)
collection_lpis u i icid sound =
    lpis_of u.layout.shape.lpi_bits (maps_of u i) icid (λ dev ev event is.
    elim (slice_get u.translators i) as (λ o. slice_get u.translators i ≡ o → is_lpi u.layout.shape.lpi_bits event.intid.0 ≡ true) [
      | None ↦ λ none.
          absurd (let there : event_of no_maps dev ev ≡ Some event =
          ap (λ (t : Translator). event_of t.maps dev ev) (sym (not_found u.translators i no_translator none)) ∙ is in
          let empty : event_of no_maps dev ev ≡ None = get-empty pair_cmp (dev, ev) in cc)
      | Some t ↦ λ here.
          ((sound.translators i t here).events dev ev event
          (ap (λ (x : Translator). event_of x.maps dev ev) (sym (found_at u.translators i t no_translator here)) ∙ is)).lpi
    ] refl)
