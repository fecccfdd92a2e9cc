-- A run of a script that was made, counted.
use Rattle.std.proofs.Common.{◌≡◌, ℕ, List, [], ◌∷◌, length, map, get_or, None, Result, Ok, Err, IfOk, refl, sym, ap, subst, ◌∙◌}
use Rattle.std.proofs.lemmas.List.{length-map}
use Rattle.its_types.specs.declared.ids.Intid.{Intid}
use Rattle.its_plain.specs.Described.{IsFirstState}
use Rattle.its_plain.specs.History.{after}
use Rattle.its_plain.specs.Plain.{Plain}
use Rattle.its_plain.specs.Regions.{savable}
use Rattle.its_plain.specs.Runs.{Leg, ArePhases, IsLegRun}
use Rattle.its_plain.specs.declared.call.Entry.{Entry}
use Rattle.its_plain.specs.declared.fault.SaveFault.{SaveFault}
use Rattle.event_script.specs.declared.script.Script.{Script}
use Rattle.its_history.specs.declared.threads.ThreadList.{ThreadList}
use Rattle.its_steps.specs.Parts.{Setup}
use Rattle.its_steps.specs.World.{View, first_view}
use Rattle.its_turns.specs.Machines.{setup, view}
use Rattle.its_turns.specs.declared.machine.Machine.{Machine}
use Rattle.its_turns.specs.declared.machine.Pass.{Pass}
use Rattle.its_migrate.specs.Resting.{pending_at_rest, resting}
use Rattle.script_threads.specs.Legs.{RanLeg}
use Rattle.script_gen.specs.Generated.{first_leg, generated}
use Rattle.its_plain.specs.Saved.{moved}
use Rattle.script_gen.specs.Laws.{CanMigrate}
use Rattle.script_gen.specs.Summary.{summary}
use Rattle.script_gen.specs.declared.counts.Counts.{Counts}
use Rattle.its_top.specs.Summarized.{IsCounted, IsMade, IsSummary, pending_counts}
use Rattle.its_top.specs.declared.moves.Shared.{Shared}
use Rattle.its_top.proofs.Endings.{not_savable}

-- the script's first leg
pub first_of : (signals threads : ℕ) (script : Script) (leg phases : Leg) → script ≡ generated signals threads → leg ≡ get_or script.legs 0 leg → phases ≡ leg
    → phases ≡ first_leg signals threads
first_of signals threads script leg phases same at is = is ∙ at ∙ ap (λ (s : Script). get_or s.legs 0 leg) same

pub leg_run : (signals threads : ℕ) (s : Setup) (leg : Leg) (lists : List ThreadList) (w : View) → leg ≡ first_leg signals threads
    → RanLeg s leg lists None w → IsLegRun s.start (first_leg signals threads) w.seen
leg_run signals threads s leg lists w same ran =
    record { legal = ran.legal; calls = subst (λ (l : Leg). ArePhases 1 l w.seen) same (ran.whole refl) }

-- the state after it can be saved
pub can_be_saved : {X : Type 0} (signals threads : ℕ) (script : Script) (made : IsMade signals threads script) (s : Setup) (h : List Entry) (f : SaveFault)
    → CanMigrate → IsFirstState script.desc s.start → IsLegRun s.start (first_leg signals threads) h → savable (after s.start h) ≡ Err f → X
can_be_saved signals threads script made s h f can starts run refused =
    not_savable (after s.start h) f refused
    (can signals threads made.asked s.start h (subst (λ (t : Script). IsFirstState t.desc s.start) made.same starts) run)

-- ---- what is pending

lengths : (lists : List (List Intid)) → map (λ lpis. length lpis) lists ≡ map (λ lpis. length lpis) (map (map (λ i. i.0)) lists)
lengths [] = refl
lengths (x ∷ xs) = ap (λ n. n ∷ map (λ (lpis : List Intid). length lpis) xs) (sym (length-map x (λ i. i.0)))
    ∙ ap (λ rest. length (map (λ (i : Intid). i.0) x) ∷ rest) (lengths xs)

pub pending_are : (lists : List (List Intid)) (m : Machine) (r : Pass) → map (map (λ i. i.0)) lists ≡ pending_at_rest (resting m r)
    → view r ≡ first_view (setup m)
    → map (λ lpis. length lpis) lists ≡ pending_counts (setup m).start
pending_are lists m r told fresh =
    lengths lists ∙ ap (map (λ lpis. length lpis)) told
    ∙ ap (λ (v : View). map (λ lpis. length lpis) (pending_at_rest (after (setup m).start v.seen))) fresh

-- ---- the summary

-- the second leg has no calls
nothing_run : (u : Plain) → IsLegRun u [] []
nothing_run u = record { legal = tt; calls = refl }

-- what is told of a leg that was counted, and of what is pending after the migration
pub summed : {T E : Type 0} (bytes : T → List ℕ) (signals threads : ℕ) (script : Script) (first : Plain) (counts : Counts) (next : Shared) (pending : List ℕ)
    (r : Result T E) → IsMade signals threads script → IsFirstState script.desc first → IsCounted signals threads first counts next
    → pending ≡ pending_counts (setup next.machine).start → IfOk r (λ text. bytes text ≡ summary counts pending)
    → IfOk r (λ text. IsSummary signals threads (bytes text))
summed bytes signals threads script first counts next pending (Err e) made starts counted are is = tt
summed bytes signals threads script first counts next pending (Ok text) made starts counted are is = record {
  first = first;
  starts = subst (λ (s : Script). IsFirstState s.desc first) made.same starts;
  history = counted.history;
  is_run = (
    counted.history,
    [] ∷ [],
    refl,
    counted.is_run,
    counted.can,
    ([], refl, nothing_run (moved (after first counted.history))),
  );
  same = is ∙ (λ d. summary (counted.counts_are d) ((are ∙ ap pending_counts counted.start) d));
}
