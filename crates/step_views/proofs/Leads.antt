-- Where the maps of a translator that is lent lead an event.
use Rattle.std.proofs.Common.{◌≡◌, ℕ, Option, Some, None, refl, sym, ap, ◌∙◌}
use Rattle.its_maps.specs.LookUp.{found}
use Rattle.its_maps.specs.declared.look_up.LookUp.TheVariants as look_up
use Rattle.its_types.specs.Maps.{Maps, device_of, event_of, collection_of}
use Rattle.its_types.specs.declared.ids.Vcpu.{Vcpu}
use Rattle.its_types.specs.declared.translation.Device.{Device}
use Rattle.its_types.specs.declared.translation.Event.{Event}
use Rattle.its_plain.specs.Plain.{Plain, Translator, no_translator, maps_of}
use Rattle.owned_parts.specs.Owned.{state_of_parts}
use Rattle.owned_parts.specs.declared.in_place.TranslatorRef.{TranslatorRef}
use Rattle.owned_parts.specs.declared.parts.Parts.{Parts}
use Rattle.owned_machine.specs.Whole.{IsMachine}
use Rattle.owned_machine.proofs.Lists.{not_found}
use Rattle.std.specs.Prelude.{slice_get}
use Rattle.std.specs.FinMap.{get-empty}
use Rattle.std.specs.Ordering.{nat_cmp}
use Rattle.step_views.specs.Destinations.{of_target, of_event, of_device, destination}
use Rattle.step_views.specs.Lent.{IsNumber}
use Rattle.step_views.specs.declared.destination.Destination.TheVariants.{NoDevice, NoEvent}
use Rattle.step_views.proofs.OfMachine.{translator_is}

-- ---- what was looked up

no_device : (d : Option Device) (e : Option Event) → found d e ≡ look_up.NoDevice → d ≡ None
no_device None e is = refl
no_device (Some d) None is = absurd cc
no_device (Some d) (Some e) is = absurd cc

no_event : (d : Option Device) (e : Option Event) (x : Device) → found d e ≡ look_up.NoEvent x → (d ≡ Some x) × (e ≡ None)
no_event None e x is = absurd cc
no_event (Some d) None x is = (cc, refl)
no_event (Some d) (Some e) x is = absurd cc

both_mapped : (d : Option Device) (e : Option Event) (x : Device) (y : Event) → found d e ≡ look_up.Mapped x y → (d ≡ Some x) × (e ≡ Some y)
both_mapped None e x y is = absurd cc
both_mapped (Some d) None x y is = absurd cc
both_mapped (Some d) (Some e) x y is = (cc, cc)

-- ---- where that leads

module _ (p : Parts) (t : TranslatorRef) (m : IsMachine p) (i : ℕ) (at : IsNumber p t i) (dev ev : ℕ) where
  abbrev u : Plain
  u = state_of_parts p

  abbrev here : Maps
  here = t.maps.now.maps

  same : here ≡ maps_of u i
  same = ap (λ (x : Translator). x.maps) (sym (translator_is p t m i at))

  pub to_no_device : found (device_of here dev) (event_of here dev ev) ≡ look_up.NoDevice → NoDevice ≡ destination u i dev ev
  unfolding destination
  to_no_device is =
      sym (ap (λ (x : Maps). of_device u i dev ev (device_of x dev)) (sym same)
      ∙ ap (of_device u i dev ev) (no_device (device_of here dev) (event_of here dev ev) is))

  by_event : (d : Device) (o : Option Event) → (device_of here dev ≡ Some d) × (event_of here dev ev ≡ o) → of_event u i o ≡ destination u i dev ev
  unfolding destination
  by_event d o is =
      sym (ap (λ (x : Maps). of_device u i dev ev (device_of x dev)) (sym same) ∙ ap (of_device u i dev ev) is.0
      ∙ ap (λ (x : Maps). of_event u i (event_of x dev ev)) (sym same) ∙ ap (of_event u i) is.1)

  pub to_no_event : (d : Device) → found (device_of here dev) (event_of here dev ev) ≡ look_up.NoEvent d → NoEvent ≡ destination u i dev ev
  to_no_event d is = by_event d None (no_event (device_of here dev) (event_of here dev ev) d is)

  pub to_target : (d : Device) (event : Event) (o : Option Vcpu) → found (device_of here dev) (event_of here dev ev) ≡ look_up.Mapped d event
      → o ≡ collection_of here event.icid.0 → of_target u event o ≡ destination u i dev ev
  to_target d event o is to =
      ap (of_target u event) to ∙ ap (λ (x : Maps). of_target u event (collection_of x event.icid.0)) same
      ∙ by_event d (Some event) (both_mapped (device_of here dev) (event_of here dev ev) d event is)

pub to_nothing : (p : Parts) (its dev ev : ℕ) → slice_get (state_of_parts p).translators its ≡ None → NoDevice ≡ destination (state_of_parts p) its dev ev
unfolding destination
to_nothing p its dev ev none =
    let u = state_of_parts p in
    sym (ap (λ (x : Translator). of_device u its dev ev (device_of x.maps dev)) (not_found u.translators its no_translator none)
    ∙ ap (of_device u its dev ev) (get-empty nat_cmp dev))
