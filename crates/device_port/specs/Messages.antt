-- Messages to a translator, and the calls that are such.
use Rattle.std.specs.Prelude.{◌≡◌, ◌<◌, ℕ, Some}
use Rattle.its_types.specs.declared.ids.DeviceId.{DeviceId}
use Rattle.its_types.specs.declared.ids.EventId.{EventId}
use Rattle.its_plain.specs.declared.call.Call.{Call}
use Rattle.its_plain.specs.declared.call.Call.TheVariants as call
use Rattle.its_steps.specs.MayCall.{message_of}
use Rattle.its_steps.specs.Parts.{Setup, translator_count}
use Rattle.device_port.specs.declared.message.Message.{Message}

-- a device's message to a translator
abbrev pub message : ℕ → DeviceId → EventId → Message
message its dev ev = record { its = its; dev = dev; ev = ev }

-- a signal, which is such
abbrev pub signal : ℕ → DeviceId → EventId → Call
signal its dev ev = call.Signal its dev ev

-- the call is this message, to a translator that the machine has
pub record Sends (s : Setup) (c : Call) (m : Message) : Type 0 where
  pub message_is : message_of c ≡ Some (m.its, (m.dev, m.ev))
  pub stands : m.its < translator_count s
