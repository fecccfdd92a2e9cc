-- What parts contain, and what a pass has that holds some.
use Rattle.std.specs.Prelude.{ℕ, Bool, Option, List, map}
use Rattle.guest_windows.specs.Windows.{Window}
use Rattle.dirty_log.specs.declared.tracked.Tracked.{Tracked}
use Rattle.its_types.specs.declared.machine.Part.{Part}
use Rattle.its_plain.specs.Plain.{Translator, ConfState, PendState}
use Rattle.xlate_cache.specs.declared.entry.Entry.{Entry as Translation}

pub data Content : Type 0 where
  -- a translator's registers and maps
  Maps : Translator → Content
  -- guest memory with its copy
  Mem : List Window → Option Tracked → Content
  -- the ways of a shard of a translator's cache
  Shard : List (Option Translation) → Content
  -- a redistributor's LPI registers, with its copy of the configuration
  Conf : ConfState → Content
  -- its pending LPIs, and whether it takes LPIs
  Pend : PendState → Content

-- a part whose turn a pass has
pub record Held : Type 0 where
  pub part : Part
  -- what it contains when it is given back
  pub owed : Content
  -- whether its slot is empty
  pub out : Bool

-- a shard that a pass held
pub record Looked : Type 0 where
  pub its : ℕ
  pub number : ℕ
  pub ways : List (Option Translation)

abbrev pub parts_of : List Held → List Part
parts_of held = map (λ x. x.part) held
