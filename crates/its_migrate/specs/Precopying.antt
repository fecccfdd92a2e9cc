-- The outcome of a pre-copy: a migration to a machine whose memory is the second one of the machine that is left.
use Rattle.std.specs.Prelude.{◌≡◌, ℕ, Option, None, Result, Ok, Err}
use Rattle.dirty_log.specs.declared.tracked.Tracked.{Tracked}
use Rattle.its_plain.specs.Plain.{Plain}
use Rattle.its_plain.specs.Regions.{savable}
use Rattle.its_plain.specs.Saved.{saved, moved_count, track_of}
use Rattle.its_plain.specs.declared.fault.SaveError.{SaveError}
use Rattle.its_plain.specs.declared.fault.SaveError.TheVariants as errors
use Rattle.its_plain.specs.declared.layout.Layout.{Layout}
use Rattle.owned_parts.specs.Owned.{state_of_parts}
use Rattle.owned_parts.specs.declared.parts.Parts.{Parts}
use Rattle.owned_machine.specs.Whole.{IsMachine, GoesOn}
use Rattle.its_steps.specs.Parts.{Setup, IsOfMachine}
use Rattle.its_turns.specs.Machines.{setup, view, IsOf}
use Rattle.its_turns.specs.declared.machine.Machine.{Machine}
use Rattle.its_turns.specs.declared.machine.Pass.{Pass}
use Rattle.held_parts.specs.Wholes.{redists_in, state_of_whole}
use Rattle.held_parts.specs.declared.whole.Whole.{Whole}
use Rattle.its_migrate.specs.Resting.{Rests, WentOn, Migrates, resting}
use Rattle.its_migrate.specs.declared.outcome.Precopy.{Precopy}
use Rattle.its_migrate.specs.declared.outcome.Precopy.TheVariants as precopy
use Rattle.its_migrate.specs.declared.outcome.Untracked.{Untracked}

-- ---- parts without the second memory

abbrev pub untracked : Plain → Plain
untracked u = record u { track = None }

-- and with it
abbrev pub with_track : Option Tracked → Parts → Parts
with_track track p = record p { track = track }

-- the same state with a second memory that begins anew, where it has one: zero, and every page dirty
abbrev pub renewed : Plain → Plain
renewed u = record u { track = track_of u.layout.track u.memory }

-- these are a state's, but for the second memory, and a machine's once they have such a one
pub record AreLeft (u : Plain) (p : Parts) : Type 0 where
  pub state : state_of_parts p ≡ untracked u
  pub machine : IsMachine (with_track (track_of u.layout.track u.memory) p)

-- they are given it, or all stays as it was
abbrev pub IsTrackedAgain : Plain → Untracked → Result Parts Untracked → Type 0
IsTrackedAgain u x (Ok p) = GoesOn p (renewed u)
IsTrackedAgain u x (Err y) = y ≡ x

-- they were held, and so was the second memory
pub record AreUnpacked (l : Layout) (x : Whole) (r : Parts × Option Tracked) : Type 0 where
  pub state : state_of_parts (with_track r.1 r.0) ≡ state_of_whole l x
  pub layout : r.0.layout ≡ l
  pub track : r.0.track ≡ None
  pub redists : r.0.redists ≡ redists_in x

-- they are of a machine with this setup, and can be saved with that memory
pub record AreTaken (s : Setup) (r : Parts × Option Tracked) : Type 0 where
  pub machine : IsMachine (with_track r.1 r.0)
  pub of : IsOfMachine s (state_of_parts (with_track r.1 r.0))
  pub savable : savable (state_of_parts (with_track r.1 r.0)) ≡ Ok tt
  pub track : r.0.track ≡ None

-- ---- pre-copies

-- the next machine goes on as after a migration, in memory that has all tables; the pages were copied that were dirty, or that a save writes
pub record WentOnCopied (m : Machine) (r : Pass) (n : Machine) (s : Pass) (count : ℕ) : Type 0 where
  pub went : WentOn m r n s
  pub memory : (setup n).start.memory ≡ saved (resting m r)
  pub count_is : count ≡ moved_count (resting m r)

abbrev pub Precopies : Machine → Pass → Result (Machine × Pass × ℕ) Precopy → Type 0
Precopies m r (Ok x) = WentOnCopied m r x.0 x.1 x.2
Precopies m r (Err (precopy.Fault n s f)) = (n ≡ m) × IsOf n s × Rests (view r) (view s) × (savable (resting m r) ≡ Err f)
Precopies m r (Err (precopy.NoMemory x)) = AreLeft (resting m r) x.parts

-- what is left of a machine that couldn't be saved
abbrev pub IsLeftFor : Machine → Pass → SaveError → Precopy → Type 0
IsLeftFor m r (errors.Fault f) x = x ≡ precopy.Fault m r f
IsLeftFor m r errors.NoMemory x = (y : Untracked) × (x ≡ precopy.NoMemory y) × AreLeft (resting m r) y.parts

-- what a migration and a pre-copy give begins alike, and so do the roots
abbrev pub PrecopiesAsMigrates : Type 0
PrecopiesAsMigrates = (m : Machine) (r : Pass) (x : Machine × Pass) (y : Machine × Pass × ℕ) → Migrates m r (Ok x) → Precopies m r (Ok y)
    → (setup y.0 ≡ setup x.0) × (y.0.desc ≡ x.0.desc) × (view y.1 ≡ view x.1)
