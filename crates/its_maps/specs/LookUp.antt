-- What is mapped of a device and an event (IHI 0069, section 5.2).
use Rattle.std.specs.Prelude.{ℕ, Option, Some, None}
use Rattle.its_types.specs.Maps.{Maps, device_of, event_of}
use Rattle.its_types.specs.declared.translation.Device.{Device}
use Rattle.its_types.specs.declared.translation.Event.{Event}
use Rattle.its_maps.specs.declared.look_up.LookUp.{LookUp}
use Rattle.its_maps.specs.declared.look_up.LookUp.TheVariants.{NoDevice, NoEvent, Mapped}

-- the device, if it is mapped, and the event, if that is too
abbrev pub found : Option Device → Option Event → LookUp
found None event = NoDevice
found (Some device) None = NoEvent device
found (Some device) (Some event) = Mapped device event

abbrev pub looked_up : Maps → ℕ → ℕ → LookUp
looked_up m dev ev = found (device_of m dev) (event_of m dev ev)
