-- Where an event leads, as numbers.
use Rattle.its_numbers.specs.declared.events.EventOut.{EventOut}
use Rattle.step_views.specs.declared.destination.Destination.{Destination}
use Rattle.step_views.specs.declared.destination.Destination.TheVariants as to

-- what isn't told is 0
abbrev pub event_out : Destination → EventOut
event_out to.NoDevice = record { cause = 2; intid = 0; collection = 0; vcpu = 0 }
event_out to.NoEvent = record { cause = 3; intid = 0; collection = 0; vcpu = 0 }
event_out (to.NoCollection intid icid) = record { cause = 4; intid = intid.0; collection = icid.0; vcpu = 0 }
event_out (to.LpisOff intid icid vcpu) = record { cause = 5; intid = intid.0; collection = icid.0; vcpu = vcpu.0 }
event_out (to.Processor intid icid vcpu) = record { cause = 0; intid = intid.0; collection = icid.0; vcpu = vcpu.0 }
