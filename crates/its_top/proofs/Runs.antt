-- What came of a leg.
use Rattle.std.proofs.Common.{◌≡◌, ℕ, zero, suc, get_or, take, ◌<◌, ◌≤◌, Bool, true, false, List, [], ◌∷◌, ◌++◌, length, map, None, refl, sym, ap, subst, ◌∙◌}
use Rattle.std.proofs.Common.{arith}
use Rattle.std.specs.Prelude.{◌&&◌, slice_index_or}
use Rattle.std.specs.List.{list_all, AllByRecursion}
use Rattle.std.specs.String.{string_bytes}
use Rattle.its_plain.specs.Plain.{Plain, Redistributor, no_redistributor}
use Rattle.its_plain.specs.History.{after}
use Rattle.its_plain.specs.Runs.{Leg}
use Rattle.event_script.specs.Limits.{IsWithinLimits, is_leg}
use Rattle.event_script.specs.declared.script.Move.{Move}
use Rattle.event_script.specs.declared.script.Script.{Script}
use Rattle.its_history.specs.Histories.{seat_of, history_lines}
use Rattle.its_history.specs.Merged.{open_leg}
use Rattle.its_history.specs.Report as report
use Rattle.its_history.specs.Report.{leg_text}
use Rattle.its_history.specs.declared.trace.EntryLine.{EntryLine}
use Rattle.its_history.specs.Reports.{pending_lists, thread_counts}
use Rattle.its_top.specs.Played.{IsPlayed}
use Rattle.its_steps.specs.Parts.{Setup}
use Rattle.its_migrate.specs.Resting.{resting}
use Rattle.its_turns.specs.Machines.{setup}
use Rattle.its_turns.specs.declared.machine.Machine.{Machine}
use Rattle.its_turns.specs.declared.machine.Pass.{Pass}
use Rattle.its_plain.specs.declared.call.Entry.{Entry}
use Rattle.script_threads.specs.Asks.{MayRunLeg}
use Rattle.script_threads.specs.Scripts.{IsOfDesc}
use Rattle.script_threads.proofs.Scripts.{legs_may_run_so}
use Rattle.its_answers.specs.Moves.{pages_of, move_line}
use Rattle.its_answers.proofs.Told.{whole_moved, whole_cut, is_refused}
use Rattle.its_top.proofs.Moving.{goes_on_with, is_moved}
use Rattle.its_answers.specs.Answered.{IsLegSpent, LegStops, IsSpentEnding}
use Rattle.its_top.specs.Answered.{LegGoes}
use Rattle.its_answers.specs.Opened.{IsLegOpen}
use Rattle.its_top.specs.Opened.{LegIsLeft}
use Rattle.its_answers.specs.declared.ending.Ending.{Ending}
use Rattle.its_top.specs.declared.legs.Goes.{Goes}
use Rattle.its_top.specs.declared.legs.Goes.TheVariants.{On, Ends}
use Rattle.its_answers.specs.declared.status.Status.{Status}

-- ---- a leg that was played from its start

module _ (s : Setup) (leg : Leg) (number : ℕ) (lines : List EntryLine) (h : List Entry) (old new : List ℕ) where
  pub is_open : (now : Plain) (pending : List (List ℕ)) (text : List ℕ) → IsPlayed s leg lines false h → now ≡ after s.start h
      → pending ≡ map report.pending_text (pending_lists (after s.start h))
      → text ≡ report.leg_text number (record { entries = lines; pending = pending; end = None })
      → IsLegOpen s.limits.place_last s.start now leg number text
  is_open now pending text played is texts told = record {
    history = h;
    is_run = record { legal = played.legal; calls = played.whole refl };
    places = played.fits refl;
    now_is = is;
    text_is = told
        ∙ ap (λ (ls : List EntryLine). report.leg_text number (record { entries = ls; pending = pending; end = None })) played.lines_are
        ∙ ap (λ (ts : List (List ℕ)). report.leg_text number (record {
          entries = history_lines (seat_of (thread_counts leg)) 0 h;
          pending = ts;
          end = None;
        })) texts;
  }

  pub is_spent : (e : Ending) → IsPlayed s leg lines true h → IsSpentEnding number lines old new e → IsLegSpent s.limits.place_last s.start leg number old new
      (string_bytes e.line)
  is_spent e played told = record {
    history = h;
    is_part = record { legal = played.legal; calls = played.part };
    all_places = played.full refl;
    more = played.more refl;
    added = told.added ∙ ap (λ (ls : List EntryLine). old ++ report.leg_text number (open_leg ls)) played.lines_are;
    line_is = told.line_is;
  }

-- ---- what comes of a leg that was told so

pub is_left : (m : Machine) (r : Pass) (way : Move) (leg : Leg) (number : ℕ) (text old held new : List ℕ) (g : Goes)
    → IsLegOpen (setup m).limits.place_last (setup m).start (resting m r) leg number text → held ≡ old → LegIsLeft m r way number text held new g
    → LegGoes m leg number way old new g
is_left m r way leg number text old held new (On next) o same left =
    let w = whole_moved (setup m).limits.place_last (setup m).start (resting m r) leg number text old new o way
    (left.1 ∙ ap (λ (h : List ℕ). h ++ (text ++ move_line (pages_of way (resting m r)))) same) in (
      goes_on_with m r next left.0,
      is_moved m r next left.0 way leg number old new w.0 w.1,
    )
is_left m r way leg number text old held new (Ends e) o same left =
    let s = setup m in let told = left.2 in
    let w = whole_cut s.limits.place_last s.start (resting m r) leg number text old new o (told.added ∙ ap (λ (h : List ℕ). h ++ text) same) in
    subst (λ (t : Status). LegStops s.limits.place_last s.start leg number old new t (string_bytes e.line)) (sym told.status_is)
    (is_refused s.limits.place_last s.start (resting m r) leg number old new (string_bytes e.line) left.0 w.0 w.1 left.1 told.line_is)

-- ---- the bounds of a leg

both : (a b : Bool) → (a && b) ≡ true → (a ≡ true) × (b ≡ true)
both true b e = (refl, e)
both false b e = absurd cc

all_at : {X : Type 0} (f : X → Bool) (xs : List X) (i : ℕ) (x : X) → i < length xs → x ≡ get_or xs i x → list_all f xs ≡ true → f x ≡ true
all_at f [] i x lt at e = absurd (omega (arith, lt))
all_at f (y ∷ xs) zero x lt at e = ap f at ∙ (both (f y) (list_all f xs) e).0
all_at f (y ∷ xs) (suc i) x lt at e = all_at f xs i x (omega (arith, lt)) at (both (f y) (list_all f xs) e).1

-- a leg of a script may be run on a machine of its description
pub leg_may : (script : Script) (i : ℕ) (leg phases : Leg) (m : Machine) → IsWithinLimits script → i < length script.legs → leg ≡ get_or script.legs i leg
    → phases ≡ leg → IsOfDesc script.desc m
    → (length phases ≤ 256) × AllByRecursion (λ threads. length threads ≤ 64) phases × MayRunLeg m phases
leg_may script i leg phases m within lt at is of =
    let one : is_leg script.desc leg ≡ true = all_at (is_leg script.desc) script.legs i leg lt at within.legs in
    legs_may_run_so script.desc m phases of (ap (is_leg script.desc) is ∙ one)

-- ---- what is pending at one more virtual processor

pub pending_more : (rs : List Redistributor) (i : ℕ) → i < length rs
    → map report.pending_text (take (suc i) (map (λ (r : Redistributor). r.pending) rs)) ≡ map report.pending_text
    (take i (map (λ (r : Redistributor). r.pending) rs)) ++ report.pending_text (slice_index_or rs i no_redistributor).pending ∷ []
pending_more [] i lt = absurd (omega (arith, lt))
pending_more (r ∷ rs) zero lt = refl
pending_more (r ∷ rs) (suc i) lt = ap (λ (l : List (List ℕ)). report.pending_text r.pending ∷ l) (pending_more rs i (omega (arith, lt)))
