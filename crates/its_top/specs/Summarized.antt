-- What `gen` says of a run of a script that it makes.
use Rattle.std.specs.Prelude.{◌≡◌, ℕ, List, [], ◌∷◌, length, map, codes}
use Rattle.its_plain.specs.Plain.{Plain}
use Rattle.its_plain.specs.Described.{IsFirstState}
use Rattle.its_plain.specs.History.{after}
use Rattle.its_plain.specs.Runs.{IsRun, IsLegRun}
use Rattle.its_plain.specs.Saved.{moved, IsSavable}
use Rattle.its_plain.specs.declared.call.Entry.{Entry}
use Rattle.its_history.specs.Reports.{pending_lists}
use Rattle.event_script.specs.Limits.{IsWithinLimits}
use Rattle.event_script.specs.declared.script.Script.{Script}
use Rattle.its_turns.specs.Machines.{setup}
use Rattle.script_gen.specs.Generated.{generated, first_leg}
use Rattle.script_gen.specs.Laws.{IsAsked}
use Rattle.script_gen.specs.Summary.{counts_of, summary}
use Rattle.script_gen.specs.declared.counts.Counts.{Counts}
use Rattle.its_top.specs.Played.{IsFresh}
use Rattle.its_top.specs.declared.moves.Shared.{Shared}
use Rattle.its_answers.specs.declared.status.Status.{Status}
use Rattle.its_answers.specs.declared.status.Status.TheVariants as status

-- how many LPIs are pending at each virtual processor
abbrev pub pending_counts : Plain → List ℕ
pending_counts u = map (λ lpis. length lpis) (pending_lists u)

-- the counts of a run's calls, and what is pending after its migration; after that no call is made
pub record IsSummary (signals threads : ℕ) (text : List ℕ) : Type 0 where
  pub first : Plain
  pub starts : IsFirstState (generated signals threads).desc first
  pub history : List Entry
  pub is_run : IsRun first (generated signals threads).legs (history ∷ [] ∷ [])
  pub same : text ≡ summary (counts_of history) (pending_counts (moved (after first history)))

-- ---- on the way

-- the script that was asked for
pub record IsMade (signals threads : ℕ) (script : Script) : Type 0 where
  pub asked : IsAsked signals threads
  pub same : script ≡ generated signals threads
  pub within : IsWithinLimits script

-- a run of its leg was counted, and the machine migrated
pub record IsCounted (signals threads : ℕ) (first : Plain) (counts : Counts) (next : Shared) : Type 0 where
  pub history : List Entry
  pub is_run : IsLegRun first (first_leg signals threads) history
  pub counts_are : counts ≡ counts_of history
  pub can : IsSavable (after first history)
  pub fresh : IsFresh next.machine next.root
  pub start : (setup next.machine).start ≡ moved (after first history)

-- ---- causes

abbrev pub GenCauses : ℕ → ℕ → Status → List ℕ → Type 0
GenCauses signals threads status.Ok text = IsSummary signals threads text
GenCauses signals threads status.Memory text = text ≡ codes "refused memory\n"
GenCauses signals threads _ text = ⊥
