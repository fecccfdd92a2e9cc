-- The outcome of making a machine.
use Rattle.std.specs.Prelude.{◌≡◌, false, Option, Some, None}
use Rattle.its_plain.specs.Described.{IsFirstState}
use Rattle.its_plain.specs.Plain.{Plain}
use Rattle.its_plain.specs.declared.desc.Desc.{Desc}
use Rattle.its_numbers.specs.Counters.{none_counted}
use Rattle.its_numbers.specs.declared.limits.GuestLimits.{GuestLimits}
use Rattle.its_c.specs.Keeping.{Held, kept_of}
use Rattle.its_numbers.specs.Limits.{is_over}

-- there is a machine, in the first state of what the description makes, which maps no more than may be; its description and its
-- limits are kept, and nothing is counted yet
pub record IsMachineOf (d : Desc) (l : GuestLimits) (h : Held) : Type 0 where
  pub state : IsFirstState d h.machine
  pub within : is_over l h.machine ≡ false
  pub desc : h.desc ≡ kept_of d
  pub limits : h.limits ≡ l
  pub counters : h.counters ≡ none_counted

abbrev pub IsMade : Desc → GuestLimits → Option Held → Type 0
IsMade d l None = ⊥
IsMade d l (Some h) = IsMachineOf d l h
