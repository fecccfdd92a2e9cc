-- Where the maps of a translator lead an event.
use Rattle.std.proofs.Common.{◌≡◌, ℕ, ◌<◌, Option, Some, None, refl, sym, ap, ◌∙◌, subst}
use Rattle.its_maps.specs.LookUp.{found, looked_up}
use Rattle.its_maps.specs.declared.look_up.LookUp.TheVariants as look_up
use Rattle.its_types.specs.Maps.{Maps, device_of, event_of, collection_of}
use Rattle.its_types.specs.declared.ids.Vcpu.{Vcpu}
use Rattle.its_types.specs.declared.machine.Part.TheVariants as part
use Rattle.its_types.specs.declared.translation.Device.{Device}
use Rattle.its_types.specs.declared.translation.Event.{Event}
use Rattle.its_plain.specs.Plain.{Plain, Translator, maps_of}
use Rattle.its_steps.specs.Contents.{Maps as MapsContent}
use Rattle.its_steps.specs.Parts.{Setup, vcpu_count}
use Rattle.its_turns.specs.Told.{HasStood}
use Rattle.step_views.specs.Destinations.{destination, of_target, of_event, of_device}
use Rattle.step_views.specs.declared.destination.Destination.TheVariants.{NoDevice, NoEvent}

no_device : (d : Option Device) (e : Option Event) → found d e ≡ look_up.NoDevice → d ≡ None
no_device None e is = refl
no_device (Some d) None is = absurd cc
no_device (Some d) (Some e) is = absurd cc

no_event : (d : Option Device) (e : Option Event) (x : Device) → found d e ≡ look_up.NoEvent x → (d ≡ Some x) × (e ≡ None)
no_event None e x is = absurd cc
no_event (Some d) None x is = (cc, refl)
no_event (Some d) (Some e) x is = absurd cc

both_mapped : (d : Option Device) (e : Option Event) (x : Device) (y : Event) → found d e ≡ look_up.Mapped x y → (d ≡ Some x) × (e ≡ Some y)
both_mapped None e x y is = absurd cc
both_mapped (Some d) None x y is = absurd cc
both_mapped (Some d) (Some e) x y is = (cc, cc)

module _ (m : Maps) (dev ev : ℕ) (u : Plain) (its : ℕ) (at : maps_of u its ≡ m) where
  pub to_no_device : looked_up m dev ev ≡ look_up.NoDevice → destination u its dev ev ≡ NoDevice
  unfolding destination
  to_no_device is =
      ap (λ (x : Maps). of_device u its dev ev (device_of x dev)) at
      ∙ ap (of_device u its dev ev) (no_device (device_of m dev) (event_of m dev ev) is)

  by_event : (d : Device) (o : Option Event) → (device_of m dev ≡ Some d) × (event_of m dev ev ≡ o) → destination u its dev ev ≡ of_event u its o
  unfolding destination
  by_event d o is =
      ap (λ (x : Maps). of_device u its dev ev (device_of x dev)) at ∙ ap (of_device u its dev ev) is.0
      ∙ ap (λ (x : Maps). of_event u its (event_of x dev ev)) at ∙ ap (of_event u its) is.1

  pub to_no_event : (d : Device) → looked_up m dev ev ≡ look_up.NoEvent d → destination u its dev ev ≡ NoEvent
  to_no_event d is = by_event d None (no_event (device_of m dev) (event_of m dev ev) d is)

  pub to_target : (d : Device) (event : Event) (o : Option Vcpu) → looked_up m dev ev ≡ look_up.Mapped d event → o ≡ collection_of m event.icid.0
      → destination u its dev ev ≡ of_target u event o
  to_target d event o is to =
      by_event d (Some event) (both_mapped (device_of m dev) (event_of m dev ev) d event is)
      ∙ ap (λ (x : Maps). of_target u event (collection_of x event.icid.0)) at ∙ ap (of_target u event) (sym to)

-- a sound machine has the virtual processor that a collection goes to
pub target_there : (s : Setup) (its : ℕ) (t : Translator) (icid : ℕ) (vcpu : Vcpu) → HasStood s (part.Maps its) (MapsContent t) → collection_of t.maps icid ≡ Some vcpu
    → vcpu.0 < vcpu_count s
target_there s its t icid vcpu stood goes =
    subst (λ l. vcpu.0 < l.shape.vcpus) (sym stood.machine.layout) ((stood.machine.sound.translators its t stood.right).collections icid vcpu goes).target
