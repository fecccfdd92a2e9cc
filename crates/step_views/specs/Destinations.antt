-- Where a translator's maps lead an event (IHI 0069, section 5.2), whether or not the translator is enabled.
use Rattle.std.specs.Prelude.{ℕ, if◌then◌else◌, Option, Some, None, Result, Ok, Err}
use Rattle.its_types.specs.Maps.{device_of, event_of, collection_of}
use Rattle.its_types.specs.declared.ids.Target.{Target}
use Rattle.its_types.specs.declared.ids.Vcpu.{Vcpu}
use Rattle.its_types.specs.declared.translation.Device.{Device}
use Rattle.its_types.specs.declared.translation.Event.{Event}
use Rattle.its_plain.specs.Plain.{Plain, maps_of, is_on}
use Rattle.its_plain.specs.declared.call.Cause.{Cause}
use Rattle.its_plain.specs.declared.call.Cause.TheVariants as cause
use Rattle.step_views.specs.declared.destination.Destination.{Destination}
use Rattle.step_views.specs.declared.destination.Destination.TheVariants.{NoDevice, NoEvent, NoCollection, LpisOff, Processor}

abbrev pub of_target : Plain → Event → Option Vcpu → Destination
of_target u event None = NoCollection event.intid event.icid
of_target u event (Some vcpu) = if is_on u vcpu.0 then Processor event.intid event.icid vcpu else LpisOff event.intid event.icid vcpu

abbrev pub of_event : Plain → ℕ → Option Event → Destination
of_event u i None = NoEvent
of_event u i (Some event) = of_target u event (collection_of (maps_of u i) event.icid.0)

abbrev pub of_device : Plain → ℕ → ℕ → ℕ → Option Device → Destination
of_device u i dev ev None = NoDevice
of_device u i dev ev (Some device) = of_event u i (event_of (maps_of u i) dev ev)

unfoldable pub destination : Plain → ℕ → ℕ → ℕ → Destination
destination u i dev ev = of_device u i dev ev (device_of (maps_of u i) dev)

-- where a signal goes that is led there by an enabled translator
abbrev pub signalled : Destination → Result Target Cause
signalled NoDevice = Err cause.NoDevice
signalled NoEvent = Err cause.NoEvent
signalled (NoCollection intid icid) = Err cause.NoCollection
signalled (LpisOff intid icid vcpu) = Err cause.LpisOff
signalled (Processor intid icid vcpu) = Ok (record { vcpu = vcpu; intid = intid })
