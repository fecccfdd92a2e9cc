-- How much a guest may take: when it has as much, and when it has more.
use Rattle.std.specs.Prelude.{◌≡◌, ◌≢◌, ◌⊎◌, ℕ, ◌-◌, ◌^◌, Bool, true, not, ◌&&◌, ◌||◌, ◌==◌, nat_le, nat_lt, length}
use Rattle.std.specs.FinMap.{entries}
use Rattle.its_command.specs.declared.command.Command.{Command}
use Rattle.its_types.specs.Maps.{Maps}
use Rattle.its_plain.specs.Described.{IsFirstState}
use Rattle.its_plain.specs.Plain.{Plain}
use Rattle.its_plain.specs.declared.desc.Desc.{Desc}
use Rattle.step_views.specs.Counts.{device_count, event_count, adds_device, adds_event, maps_device, maps_event}
use Rattle.its_numbers.specs.declared.limits.GuestLimits.{GuestLimits}

-- the greatest limit is none
abbrev pub no_limit : ℕ
no_limit = 2 ^ 64 - 1

-- so many are mapped as the limit says, or more
abbrev pub is_at : ℕ → ℕ → Bool
is_at limit count = not (limit == no_limit) && nat_le limit count

-- the next step of a translator maps an event or a device that isn't mapped, where it has as many mapped as the limit says, or more
unfoldable pub is_full : GuestLimits → Plain → ℕ → Bool
is_full l u its = (is_at l.events (event_count u its) && adds_event u its) || (is_at l.devices (device_count u its) && adds_device u its)

-- so does a command where this is mapped, if it isn't refused
unfoldable pub forbids : GuestLimits → Maps → Command → Bool
forbids l m c = (is_at l.events (length (entries m.events)) && maps_event m c) || (is_at l.devices (length (entries m.devices)) && maps_device m c)

-- more are mapped than the limit says
abbrev pub is_past : ℕ → ℕ → Bool
is_past limit count = not (limit == no_limit) && nat_lt limit count

-- a translator has more events or devices mapped than may be
abbrev pub is_over_of : GuestLimits → Plain → ℕ → Bool
is_over_of l u its = is_past l.events (event_count u its) || is_past l.devices (device_count u its)

-- one of the translators has, where one that isn't there has none
unfoldable pub is_over : GuestLimits → Plain → Bool
is_over l u = is_over_of l u 0 || is_over_of l u 1

-- it maps more than may be; or memory has a limit, and holds more
abbrev pub IsTooMuchIn : GuestLimits → Plain → Type 0
IsTooMuchIn l u = (is_over l u ≡ true) ⊎ (l.memory ≢ no_limit)

-- so does the first state of what the description makes
abbrev pub IsTooMuch : Desc → GuestLimits → Type 0
IsTooMuch d l = (u : Plain) × IsFirstState d u × IsTooMuchIn l u
