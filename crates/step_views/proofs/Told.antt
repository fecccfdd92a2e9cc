-- A signal goes where the event leads.
use Rattle.std.proofs.Common.{◌≡◌, ℕ, Bool, true, false, cond, Option, Some, None, Result, Ok, refl, ap, ◌∙◌}
use Rattle.std.specs.Option.{ok_or}
use Rattle.its_types.specs.Maps.{device_of, event_of, collection_of}
use Rattle.its_types.specs.declared.ids.Target.{Target}
use Rattle.its_types.specs.declared.ids.Vcpu.{Vcpu}
use Rattle.its_types.specs.declared.translation.Device.{Device}
use Rattle.its_types.specs.declared.translation.Event.{Event}
use Rattle.its_plain.specs.Plain.{Plain, maps_of, is_on}
use Rattle.its_plain.specs.Translation.{◌>>=◌, ensure, located, translated}
use Rattle.its_plain.specs.declared.call.Cause.{Cause}
use Rattle.its_plain.specs.declared.call.Cause.TheVariants.{Disabled, NoDevice, NoEvent, NoCollection, LpisOff}
use Rattle.step_views.specs.Destinations.{of_target, of_event, of_device, destination, signalled}
use Rattle.step_views.specs.declared.destination.Destination.TheVariants as destinations
use Rattle.step_views.specs.Laws.{DestinationTells}

module _ (u : Plain) (i : ℕ) where
  -- the target, if its LPIs are on
  abbrev on : Target → Result Target Cause
  on t = ensure (is_on u t.vcpu.0) LpisOff >>= (λ _. Ok t)

  abbrev at : Event → Option Vcpu → Result Target Cause
  at event o = ok_or o NoCollection >>= (λ vcpu. Ok (record { vcpu = vcpu; intid = event.intid }))

  to_target : (event : Event) (o : Option Vcpu) → (at event o >>= on) ≡ signalled (of_target u event o)
  to_target event None = refl
  to_target event (Some vcpu) =
      let t : Target = record { vcpu = vcpu; intid = event.intid } in
      elim (is_on u vcpu.0) as (λ b. (ensure b LpisOff >>= (λ _. Ok t))
      ≡ signalled (cond b (destinations.Processor event.intid event.icid vcpu) (destinations.LpisOff event.intid event.icid vcpu))) [
        | true ↦ refl
        | false ↦ refl
      ]

  to_event : (o : Option Event) → ((ok_or o NoEvent >>= (λ event. at event (collection_of (maps_of u i) event.icid.0))) >>= on) ≡ signalled (of_event u i o)
  to_event None = refl
  to_event (Some event) = to_target event (collection_of (maps_of u i) event.icid.0)

  to_device : (dev ev : ℕ) (o : Option Device)
      → ((ok_or o NoDevice >>= (λ _. ok_or (event_of (maps_of u i) dev ev) NoEvent >>= (λ event. at event (collection_of (maps_of u i) event.icid.0)))) >>= on)
      ≡ signalled (of_device u i dev ev o)
  to_device dev ev None = refl
  to_device dev ev (Some device) = to_event (event_of (maps_of u i) dev ev)

pub told : DestinationTells
unfolding located translated destination
told u i dev ev enabled =
    ap (λ (b : Bool). (ensure b Disabled >>= (λ _. ok_or (device_of (maps_of u i) dev) NoDevice >>= (λ _. ok_or (event_of (maps_of u i) dev ev) NoEvent
    >>= (λ event. at u i event (collection_of (maps_of u i) event.icid.0))))) >>= on u i) enabled
    ∙ to_device u i dev ev (device_of (maps_of u i) dev)
