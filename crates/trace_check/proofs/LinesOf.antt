-- The lines of a history, and the calls that they are of.
use Rattle.std.proofs.Common.{◌≡◌, ℕ, zero, suc, ◌<◌, cond, List, [], ◌∷◌, ◌++◌, length, take, get_or, Some, None, refl, ap}
use Rattle.std.proofs.Common.{◌∙◌, arith, eq-eqb}
use Rattle.its_plain.specs.Runs.{Leg}
use Rattle.its_plain.specs.declared.call.Call.{Call}
use Rattle.its_plain.specs.declared.call.Entry.{Entry}
use Rattle.its_history.specs.Histories.{Seat, history_lines}
use Rattle.its_history.specs.declared.trace.EntryLine.{EntryLine}
use Rattle.trace_check.specs.Cursors.{Progress, threads_of, call_of, with_thread, next_call}
use Rattle.trace_check.specs.Differences.{seat, lines}
use Rattle.trace_check.specs.Fields.{HasCall, progress}
use Rattle.trace_check.specs.declared.cursor.Cursor.{Cursor}
use Rattle.trace_check.proofs.Counting.{has_left}
use Rattle.trace_check.proofs.Following.{next_means}

-- the next call of a line's thread is one that the cursor has
pub has_next_call : (c : Cursor) (phase thread i : ℕ) (call : Call) → next_call (progress c) phase thread ≡ Some (i, call) → HasCall c i
has_next_call c phase thread i call e =
    let is = next_means (progress c) phase thread i call e in
    let h = has_left (threads_of c.phases.now) c.answered.items i call is.call_is in
    record { below = h.0; left = h.1 }

pub next_is : (p : Progress) (i : ℕ) (call : Call) → call_of (threads_of p.phases) p.answered i ≡ Some call → next_call p p.number (suc i) ≡ Some (i, call)
next_is p i call e =
    ap (λ b. cond b (with_thread i (call_of (threads_of p.phases) p.answered i)) None) (eq-eqb p.number p.number refl) ∙ ap (with_thread i) e

lines_long : (s : ℕ → Seat) (n : ℕ) (h : List Entry) → length (history_lines s n h) ≡ length h
lines_long s n [] = refl
lines_long s n (e ∷ h) = ap suc (lines_long s (suc n) h)

-- as many lines as entries
pub many_lines : (leg : Leg) (h : List Entry) → length (lines leg h) ≡ length h
many_lines leg h = lines_long (λ pass. seat leg pass) 0 h

-- the entry of a history that a line is of
pub record NthOf (s : ℕ → Seat) (h : List Entry) (k : ℕ) (line : EntryLine) : Type 0 where
  pub entry : Entry
  pub rest : List Entry
  pub cut : h ≡ take k h ++ entry ∷ rest
  pub front : take (suc k) h ≡ take k h ++ entry ∷ []
  pub phase : line.phase ≡ (s entry.pass).0
  pub thread : line.thread ≡ (s entry.pass).1

pub nth : (s : ℕ → Seat) (n : ℕ) (h : List Entry) (k : ℕ) (line : EntryLine) → k < length (history_lines s n h) → line ≡ get_or (history_lines s n h) k line
    → NthOf s h k line
nth s n [] k line lt is = absurd (omega arith)
nth s n (x ∷ h) zero line lt is = record {
  entry = x;
  rest = h;
  cut = refl;
  front = refl;
  phase = λ d. (is d).phase;
  thread = λ d. (is d).thread;
}
nth s n (x ∷ h) (suc k) line lt is =
    let r = nth s (suc n) h k line (omega arith) is in
    record {
      entry = r.entry;
      rest = r.rest;
      cut = ap (λ (l : List Entry). x ∷ l) r.cut;
      front = ap (λ (l : List Entry). x ∷ l) r.front;
      phase = r.phase;
      thread = r.thread;
    }
