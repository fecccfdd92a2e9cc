-- The outcome of making a machine that threads share.
use Rattle.std.specs.Prelude.{◌≡◌, ℕ, ◌-◌, ◌^◌, false, ◌==◌, if◌then◌else◌, length, Option, Some, None, Result, Ok, Err}
use Rattle.its_plain.specs.Described.{IsFirstState, IsRefused}
use Rattle.its_plain.specs.declared.desc.Desc.{Desc}
use Rattle.its_plain.specs.declared.make.MakeError.{MakeError}
use Rattle.its_plain.specs.declared.make.MakeError.TheVariants as errors
use Rattle.its_steps.specs.World.{first_view}
use Rattle.its_types.specs.declared.machine.Limits.{Limits}
use Rattle.its_turns.specs.Opening.{kept_of}
use Rattle.its_numbers.specs.Counters.{none_counted}
use Rattle.its_numbers.specs.Limits.{IsTooMuch, is_over}
use Rattle.its_numbers.specs.declared.limits.GuestLimits.{GuestLimits}
use Rattle.its_shared.specs.Knowing.{Known}
use Rattle.its_shared.specs.declared.pass.Pass.{Pass}

-- of one translator, a stamp has 8 bits and a place 56; of two, each one's stamp 12 and a place 40
abbrev pub limits_of : ℕ → Limits
limits_of translators =
    if translators == 1 then record { stamp_last = 2 ^ 8 - 1; place_last = 2 ^ 56 - 1 }
    else record { stamp_last = 2 ^ 12 - 1; place_last = 2 ^ 40 - 1 }

-- a description, with as many shards of each translator's cache as a machine that threads share has, and with its limits
abbrev pub shared : Desc → Desc
shared d = record d { shards = 64; limits = limits_of (length d.translators) }

-- the root of a machine that begins in the first state of the description: it has seen no call, none was made, and none counted
pub record IsFirst (d : Desc) (k : Known) : Type 0 where
  pub start : IsFirstState d k.view.setup.start
  pub limits : k.view.setup.limits ≡ d.limits
  pub shards : k.view.setup.shards ≡ d.shards
  pub first : k.view ≡ first_view k.view.setup
  pub desc : k.desc ≡ kept_of d
  pub counted : (k.routes ≡ 0) × (k.counters ≡ none_counted)

-- or the first thing that is wrong with the description, unless memory ran out
abbrev pub IsSharedFrom : Desc → Result Known MakeError → Type 0
IsSharedFrom d (Ok k) = IsFirst d k
IsSharedFrom d (Err (errors.Fault f)) = IsRefused d f
IsSharedFrom d (Err errors.NoMemory) = Unit {0}

-- it maps no more than may be, and its calls keep to the limits
pub record IsRootOf (d : Desc) (l : GuestLimits) (k : Known) : Type 0 where
  pub first : IsFirst d k
  pub within : is_over l k.view.setup.start ≡ false
  pub limits : k.limits ≡ l

abbrev pub IsShared : Desc → GuestLimits → Option Known → Type 0
IsShared d l None = ⊥
IsShared d l (Some k) = IsRootOf d l k

-- or there is no root, since it would map or hold more than may be
abbrev pub IsMadeWithin : Desc → GuestLimits → Option Pass → Type 0
IsMadeWithin d l None = IsTooMuch d l
IsMadeWithin d l (Some p) = IsShared d l p.known
