-- The numbers of phases and of threads are small.
use Rattle.std.proofs.Common.{◌≡◌, ℕ, zero, suc, ◌<◌, ◌≤◌, Bool, true, false, leb-true, List, [], ◌∷◌, length, get_or, Some, refl, ap, ◌∙◌, arith}
use Rattle.std.specs.Prelude.{◌&&◌, nat_lt, nat_le}
use Rattle.std.specs.List.{AllByRecursion, list_all}
use Rattle.its_plain.specs.Runs.{Phase, Leg}
use Rattle.its_plain.specs.declared.call.Call.{Call}
use Rattle.its_plain.specs.declared.desc.Desc.{Desc}
use Rattle.event_script.specs.Limits.{IsWithinLimits, is_thread, is_phase, is_leg}
use Rattle.event_script.specs.declared.draft.TheConstants.{MOST_PHASES, MOST_THREADS}
use Rattle.event_script.specs.declared.script.Script.{Script}
use Rattle.trace_check.specs.Cursors.{call_of}
use Rattle.trace_check.proofs.Counting.{has_left}
use Rattle.its_web.specs.Played.{HasCall}

left_true : (a b : Bool) → (a && b) ≡ true → a ≡ true
left_true true b e = refl
left_true false b e = absurd cc

right_true : (a b : Bool) → (a && b) ≡ true → b ≡ true
right_true true b e = e
right_true false b e = absurd cc

abbrev pub FewThreads : Leg → Type 0
FewThreads phases = AllByRecursion (λ threads. length threads ≤ 64) phases

phase_few : (d : Desc) (threads : Phase) → is_phase d threads ≡ true → length threads ≤ 64
phase_few d threads e =
    let counted = left_true (nat_lt 0 (length threads) && nat_le (length threads) MOST_THREADS) (list_all (is_thread d) threads) e in
    let most : length threads ≤ MOST_THREADS = leb-true (length threads) MOST_THREADS
    (right_true (nat_lt 0 (length threads)) (nat_le (length threads) MOST_THREADS) counted) in
    omega (arith, most)

phases_few : (d : Desc) (phases : Leg) → list_all (is_phase d) phases ≡ true → FewThreads phases
phases_few d [] e = tt
phases_few d (threads ∷ phases) e = (
  phase_few d threads (left_true (is_phase d threads) (list_all (is_phase d) phases) e),
  phases_few d phases (right_true (is_phase d threads) (list_all (is_phase d) phases) e),
)

leg_few : (d : Desc) (leg : Leg) → is_leg d leg ≡ true → (length leg ≤ 256) × FewThreads leg
leg_few d leg e =
    let most : length leg ≤ MOST_PHASES = leb-true (length leg) MOST_PHASES (left_true (nat_le (length leg) MOST_PHASES) (list_all (is_phase d) leg) e) in
    (omega (arith, most), phases_few d leg (right_true (nat_le (length leg) MOST_PHASES) (list_all (is_phase d) leg) e))

all_at : {X : Type 0} (f : X → Bool) (xs : List X) (i : ℕ) (x : X) → i < length xs → x ≡ get_or xs i x → list_all f xs ≡ true → f x ≡ true
all_at f [] i x lt at e = absurd (omega (arith, lt))
all_at f (y ∷ xs) zero x lt at e = ap f at ∙ left_true (f y) (list_all f xs) e
all_at f (y ∷ xs) (suc i) x lt at e = all_at f xs i x (omega (arith, lt)) at (right_true (f y) (list_all f xs) e)

-- a leg of a script
pub script_few : (script : Script) (i : ℕ) (leg phases : Leg) → IsWithinLimits script → i < length script.legs → leg ≡ get_or script.legs i leg → phases ≡ leg
    → (length phases ≤ 256) × FewThreads phases
script_few script i leg phases within lt at is =
    leg_few script.desc phases (ap (is_leg script.desc) is ∙ all_at (is_leg script.desc) script.legs i leg lt at within.legs)

-- a thread that has a call
pub has_call : (threads : Phase) (ns : List ℕ) (i : ℕ) (call : Call) → call_of threads ns i ≡ Some call → HasCall threads ns i
has_call threads ns i call e = let h = has_left threads ns i call e in record { below = h.0; left = h.1 }

-- a phase of a leg
pub phase_at : (leg : Leg) (i : ℕ) (threads : Phase) → i < length leg → threads ≡ get_or leg i threads → FewThreads leg → length threads ≤ 64
phase_at [] i threads lt at few = absurd (omega (arith, lt))
phase_at (t ∷ leg) zero threads lt at few = omega (arith, ap length at, few.0)
phase_at (t ∷ leg) (suc i) threads lt at few = phase_at leg i threads (omega (arith, lt)) at few.1
