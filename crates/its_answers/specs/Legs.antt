-- How a script runs leg by leg: on places below a last one, with a migration of the machine between each two.
use Rattle.std.specs.Prelude.{◌≡◌, ◌⊎◌, ℕ, ◌<◌, ◌≤◌, List, [], ◌∷◌}
use Rattle.its_plain.specs.Plain.{Plain}
use Rattle.its_plain.specs.History.{after}
use Rattle.its_plain.specs.Saved.{moved, IsSavable}
use Rattle.its_plain.specs.Runs.{Leg, IsLegRun, call_count}
use Rattle.its_plain.specs.declared.call.Entry.{Entry}
use Rattle.event_script.specs.declared.script.Script.{Script}
use Rattle.its_history.specs.Reports.{reported, migrated}
use Rattle.its_history.specs.declared.trace.Leg.{Leg as LegLines}
use Rattle.trace_check.specs.Verdicts.{copies_of}
use Rattle.its_answers.specs.declared.status.Status.{Status}
use Rattle.its_answers.specs.declared.status.Status.TheVariants as status

-- what a report tells of all legs of a run
abbrev pub all_told : Script → Plain → List (List Entry) → List LegLines
all_told script first histories = reported first script.legs (copies_of script.moves) histories

-- and of the first ones, after each of which another machine went on
abbrev pub first_told : Script → Plain → List (List Entry) → List LegLines
first_told script first histories = migrated first script.legs (copies_of script.moves) histories

-- no leg has more calls than there are places
abbrev pub HasPlaces : ℕ → List Leg → Type 0
HasPlaces last [] = Unit {0}
HasPlaces last (leg ∷ legs) = (call_count leg ≤ last) × HasPlaces last legs

-- the first legs ran whole, each on places enough, and after each the state could be saved and the machine was moved; it stands
-- in this state before the legs that are left
abbrev pub HaveRun : ℕ → Plain → List Leg → List (List Entry) → Plain → List Leg → Type 0
HaveRun last first legs [] now left = (now ≡ first) × (left ≡ legs)
HaveRun last first [] (h ∷ hs) now left = ⊥
HaveRun last first (leg ∷ legs) (h ∷ hs) now left =
    (call_count leg ≤ last) × IsLegRun first leg h × IsSavable (after first h) × HaveRun last (moved (after first h)) legs hs now left

-- however the calls of threads follow one another, the state before each migration can be saved
abbrev pub CanMigrate : Plain → List Leg → Type 0
CanMigrate first [] = Unit {0}
CanMigrate first (leg ∷ []) = Unit {0}
CanMigrate first (leg ∷ next ∷ legs) =
    (h : List Entry) → IsLegRun first leg h → IsSavable (after first h) × CanMigrate (moved (after first h)) (next ∷ legs)

-- however the calls of threads follow one another, the legs end so: a leg with more calls than places is where they end; so is a
-- leg before a migration, if the state after it can't be saved; and so is the last one
abbrev pub AllEnd : ℕ → Plain → List Leg → Status → Type 0
AllEnd last first [] s = s ≡ status.Ok
AllEnd last first (leg ∷ []) s = ((last < call_count leg) × (s ≡ status.Spent)) ⊎ ((call_count leg ≤ last) × (s ≡ status.Ok))
AllEnd last first (leg ∷ next ∷ legs) s =
    ((last < call_count leg) × (s ≡ status.Spent))
    ⊎ ((call_count leg ≤ last) × ((h : List Entry) → IsLegRun first leg h →
    (¬ IsSavable (after first h) × (s ≡ status.MigrationRefused))
    ⊎ (IsSavable (after first h) × AllEnd last (moved (after first h)) (next ∷ legs) s)))
