-- What a command is made of: it replaces maps, makes an LPI pending or not pending, moves all that are pending, and reads
-- configurations again.
use Rattle.std.specs.Prelude.{◌≡◌, ℕ, true, List, IfOk}
use Rattle.its_types.specs.Maps.{Maps}
use Rattle.its_command.specs.declared.command.Command.{Command}
use Rattle.its_plain.specs.Plain.{Plain, is_on, with_maps}
use Rattle.its_plain.specs.Commands.{lpi_set, lpi_cleared, all_moved, reread, ran}

-- what is done to pending sets and configurations keeps what is said of a state
pub record AreLpisKept (P : Plain → Type 0) : Type 0 where
  -- an LPI comes to where LPIs are on
  pub set : (u : Plain) (intid vcpu : ℕ) → is_on u vcpu ≡ true → P u → P (lpi_set intid vcpu u)
  pub cleared : (u : Plain) (intid vcpu : ℕ) → P u → P (lpi_cleared intid vcpu u)
  pub all_moved : (u : Plain) (from to : ℕ) → is_on u to ≡ true → P u → P (all_moved from to u)
  pub reread : (u : Plain) (intids : List ℕ) → P u → P (reread intids u)

-- and so do other maps
pub record IsKept (P : Plain → Type 0) : Type 0 where
  pub lpis : AreLpisKept P
  pub maps : (u : Plain) (i : ℕ) (m : Maps) → P u → P (with_maps u i m)

-- so every command that isn't refused keeps it
abbrev pub CommandsKeep : (Plain → Type 0) → Type 0
CommandsKeep P = (u : Plain) (i : ℕ) (c : Command) → P u → IfOk (ran u i c) P
