-- What a pass knows, as the calls speak of it.
use Rattle.std.specs.Prelude.{ℕ, ◌^◌, Bool, ◌==◌, ◌&&◌, nat_lt}
use Rattle.its_plain.specs.declared.desc.Desc.{Desc}
use Rattle.its_numbers.specs.declared.counters.Counters.{Counters}
use Rattle.its_numbers.specs.declared.limits.GuestLimits.{GuestLimits}
use Rattle.its_steps.specs.Parts.{translator_count, vcpu_count}
use Rattle.its_steps.specs.World.{View}

pub record Known : Type 0 where
  -- its number, the history that it has seen, its own calls in it, and what else a pass knows
  pub view : View
  -- what the machine was made from, but for the bytes put into memory and what it was restored with
  pub desc : Desc
  -- how much the guest may take by its calls
  pub limits : GuestLimits
  -- how often its calls may have ended a translation
  pub routes : ℕ
  -- how often its signals went where, and its commands were refused
  pub counters : Counters

-- what it knows of the machine beside the view, and what it keeps to
abbrev pub setting : Known → Desc × GuestLimits
setting k = (k.desc, k.limits)

-- and what it has counted
abbrev pub beside : Known → Desc × GuestLimits × ℕ × Counters
beside k = (k.desc, k.limits, k.routes, k.counters)

-- there is a translator of this number
abbrev pub has_translator : Known → ℕ → Bool
has_translator k its = nat_lt its (translator_count k.view.setup)

-- there is a virtual processor of this number
abbrev pub has_vcpu : Known → ℕ → Bool
has_vcpu k vcpu = nat_lt vcpu (vcpu_count k.view.setup)

-- passes can be split off: it is the root, and fewer than 2 ^ 32 numbers were given
abbrev pub can_split : Known → Bool
can_split k = k.view.number == 0 && nat_lt k.view.root.made (2 ^ 32)
