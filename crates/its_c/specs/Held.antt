-- What a call says of the machine of a handle.
use Rattle.std.specs.Prelude.{◌≡◌, Option, Some}
use Rattle.std.specs.Option.{option_map}
use Rattle.its_plain.specs.Plain.{Plain}
use Rattle.its_plain.specs.declared.desc.Desc.{Desc}
use Rattle.its_numbers.specs.declared.counters.Counters.{Counters}
use Rattle.its_numbers.specs.declared.limits.GuestLimits.{GuestLimits}
use Rattle.its_c.specs.Keeping.{Held}
use Rattle.its_c.specs.declared.handle.Handle.{Handle}

-- of a machine that went from the state u to the state w
abbrev pub InMachine : Handle → Handle → (Plain → Plain → Type 0) → Type 0
InMachine before after P = (h k : Held) → before.machine ≡ Some h → after.machine ≡ Some k → P h.machine k.machine

-- of what a handle had, which came to have another
abbrev pub InHeld : Handle → Handle → (Held → Held → Type 0) → Type 0
InHeld before after P = (h k : Held) → before.machine ≡ Some h → after.machine ≡ Some k → P h k

-- the description and the limits of the machine that a handle has, if it has one
abbrev pub setting : Handle → Option (Desc × GuestLimits)
setting handle = option_map (λ h. (h.desc, h.limits)) handle.machine

-- and what was counted of its signals and commands
abbrev pub beside : Handle → Option (Desc × GuestLimits × Counters)
beside handle = option_map (λ h. (h.desc, h.limits, h.counters)) handle.machine
