-- Copies of written pages that threads make beside other calls, and a migration after them.
use Rattle.std.specs.Prelude.{◌≡◌, ℕ, Bool, true, false, if◌then◌else◌, List, [], ◌∷◌, map, Ok}
use Rattle.its_plain.specs.History.{IsLegal, after}
use Rattle.its_plain.specs.Plain.{Plain}
use Rattle.its_plain.specs.Regions.{savable}
use Rattle.its_plain.specs.Saved.{saved}
use Rattle.its_plain.specs.declared.call.Call.{Call}
use Rattle.its_plain.specs.declared.call.Call.TheVariants as call
use Rattle.its_plain.specs.declared.call.Entry.{Entry}
use Rattle.its_turns.specs.Machines.{setup, view}
use Rattle.its_turns.specs.declared.machine.Machine.{Machine}
use Rattle.its_turns.specs.declared.machine.Pass.{Pass}
use Rattle.its_migrate.specs.Precopying.{Precopies, untracked}
use Rattle.its_migrate.specs.Resting.{Migrates, resting}

-- ---- histories without their copies

abbrev pub is_copy : Call → Bool
is_copy call.Copy = true
is_copy _ = false

abbrev pub but_copies : List Entry → List Entry
but_copies [] = []
but_copies (e ∷ h) = if is_copy e.call then but_copies h else e ∷ but_copies h

abbrev pub calls_in : List Entry → List Call
calls_in h = map (λ (e : Entry). e.call) h

-- without its copies a history is as legal, with the same replies, and leaves the same state but for the second memory
pub record ChangesNothingElse (u : Plain) (h : List Entry) : Type 0 where
  pub legal : IsLegal u (but_copies h)
  pub state : untracked (after u h) ≡ untracked (after u (but_copies h))

-- so it is of every legal history, whichever passes made the copies, and between whichever calls
abbrev pub CopiesChangeNothingElse : Type 0
CopiesChangeNothingElse = (u : Plain) (h : List Entry) → IsLegal u h → ChangesNothingElse u h

-- ---- a migration after them

-- two machines, of one translator or two, that began alike but for their second memories, and with which the same was done but for copies
pub record DidAlike (m n : Machine) (r q : Pass) : Type 0 where
  pub start : untracked (setup m).start ≡ untracked (setup n).start
  pub limits : (setup m).limits ≡ (setup n).limits
  pub shards : (setup m).shards ≡ (setup n).shards
  pub desc : m.desc ≡ n.desc
  pub calls : calls_in (but_copies (view r).seen) ≡ calls_in (but_copies (view q).seen)

-- the next machine and its root begin as the others do, and the memory that was copied has all that a save of the other state writes
pub record GoesOnAs (n : Machine) (q : Pass) (x : Machine × Pass × ℕ) (y : Machine × Pass) : Type 0 where
  pub setup_is : setup x.0 ≡ setup y.0
  pub desc : x.0.desc ≡ y.0.desc
  pub view_is : view x.1 ≡ view y.1
  pub memory : (setup x.0).start.memory ≡ saved (resting n q)

-- A migration that copies pages while threads run gives the same machine as one that stops first: a machine that was copied meanwhile,
-- and one that wasn't, can both be saved or neither, for the same reason, and the next machines begin alike
abbrev pub RunningAsStopped : Type 0
RunningAsStopped =
    (m n : Machine) (r q : Pass) → DidAlike m n r q → (savable (resting m r) ≡ savable (resting n q))
    × ((x : Machine × Pass × ℕ) (y : Machine × Pass) → Precopies m r (Ok x) → Migrates n q (Ok y) → GoesOnAs n q x y)
