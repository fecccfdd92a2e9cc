-- Which entries may follow a history.
use Rattle.std.proofs.Common.{◌≡◌, ◌⊎◌, ℕ, zero, suc, ◌+◌, ◌-◌, ◌<◌, cond, List, [], ◌∷◌, ◌++◌, length, Option, Some, None, refl, sym, ap, subst, ◌∙◌, inl}
use Rattle.std.proofs.Common.{inr, arith, append-nil, length-append, le-leb, eq-eqb, ne_eqb}
use mathlib.Core.Logic.{dite}
use native.Mathlib.Decide.{ℕ_discrete}
use Rattle.its_plain.specs.Plain.{Plain}
use Rattle.its_plain.specs.Answer.{answer}
use Rattle.its_plain.specs.History.{IsLegal, after}
use Rattle.its_plain.specs.Runs.{Phase, Leg, IsPhase, IsPartOfPhase, ArePartOfPhases}
use Rattle.its_plain.specs.declared.call.Call.{Call}
use Rattle.its_plain.specs.declared.call.Entry.{Entry}
use Rattle.its_history.specs.Histories.{Seat, seat_from}
use Rattle.its_history.specs.Reports.{thread_counts}
use Rattle.trace_check.specs.Cursors.{Progress, threads_of, open_count, call_of, with_thread, next_call, taken}
use Rattle.trace_check.specs.Differences.{seat, MayFollow}
use Rattle.trace_check.proofs.Lists.{cuts, legal_more}
use Rattle.trace_check.proofs.Parts.{whole_phase, nothing_more}
use Rattle.trace_check.proofs.Taken.{IsTaken, not_whole, some_open, call_below, next_taken, taken_part}
use Rattle.trace_check.proofs.Going.{IsAt, IsSettled, at_taken, at_part}

-- ---- an entry that follows is of the phase that has calls left

in_phase : (pass : ℕ) (threads : Phase) (later : Leg) (now : List Entry) (ns : List ℕ) (e : Entry) → IsTaken pass threads now ns → 0 < open_count threads ns
    → ArePartOfPhases pass (threads ∷ later) (now ++ e ∷ []) → IsPartOfPhase pass threads (now ++ e ∷ [])
in_phase pass threads later now ns e t left p =
    elim p [
      | inl part ↦ part
      | inr w ↦ of_whole w.0 w.1 w.2 w.3
    ]
  where
    never : IsPhase pass threads now → ⊥
    never whole = let s = some_open pass threads now ns left in not_whole pass threads now ns s.0 s.1 t.taken s.2 whole.calls

    of_whole : (front rest : List Entry) → now ++ e ∷ [] ≡ front ++ rest → IsPhase pass threads front → IsPartOfPhase pass threads (now ++ e ∷ [])
    of_whole front [] cut whole = subst (IsPartOfPhase pass threads) (sym (cut ∙ append-nil front)) (whole_phase pass threads front whole)
    of_whole front (r ∷ rest) cut whole =
        elim (cuts now (e ∷ []) front (r ∷ rest) cut) [
          | inl v ↦
              let none : v.0 ≡ [] = short v.0 v.2 in
              absurd (never (subst (IsPhase pass threads) (v.1 ∙ (ap (λ (x : List Entry). now ++ x) none ∙ append-nil now)) whole))
          | inr v ↦
              let none : v.0 ≡ [] = nothing_more pass threads front v.0 whole (subst (IsPartOfPhase pass threads) v.1 (taken_part pass threads now ns t)) in
              absurd (never (subst (IsPhase pass threads) (sym (v.1 ∙ (ap (λ (x : List Entry). front ++ x) none ∙ append-nil front))) whole))
        ]
      where
        short : (x : List Entry) → e ∷ [] ≡ x ++ r ∷ rest → x ≡ []
        short [] same = refl
        short (y ∷ x) same = absurd (omega (arith, ap length same, length-append x (r ∷ rest)))

-- it has its thread's next call
pub record HasNext (leg : Leg) (h : List Entry) (p : Progress) (a : IsAt leg h p) (e : Entry) : Type 0 where
  pub thread : ℕ
  pub pass : e.pass ≡ suc a.base + thread
  pub call : call_of (threads_of p.phases) p.answered thread ≡ Some e.call
  pub seat_is : seat leg e.pass ≡ (p.number, suc thread)

here_seat : (n count t : ℕ) (counts : List ℕ) → t < count → seat_from n (count ∷ counts) (suc t) ≡ (n, suc t)
here_seat n count t counts lt = ap (λ b. cond b (n, suc t) (seat_from (n + 1) counts (suc t - count))) (le-leb (suc t) count (omega arith))

pub seat_is_here : (leg : Leg) (h : List Entry) (p : Progress) → (a : IsAt leg h p) → (i : ℕ) (c : Call) → call_of (threads_of p.phases) p.answered i ≡ Some c
    → seat leg (suc a.base + i) ≡ (p.number, suc i)
seat_is_here leg h p a i c call =
    let same : suc a.base + i ≡ a.base + suc i = omega arith in
    ap (seat leg) same ∙ (a.seats (suc i) (omega arith) ∙ of_phases p.phases p.answered call)
  where
    of_phases : (phases : Leg) (ns : List ℕ) → call_of (threads_of phases) ns i ≡ Some c → seat_from p.number (thread_counts phases) (suc i) ≡ (p.number, suc i)
    of_phases [] ns found = absurd (cc found)
    of_phases (threads ∷ later) ns found = here_seat p.number (length threads) i (thread_counts later) (call_below threads ns i c found)

pub has_next : (leg : Leg) (h : List Entry) (p : Progress) → (a : IsAt leg h p) → IsSettled p → (e : Entry) → ArePartOfPhases 1 leg (h ++ e ∷ [])
    → HasNext leg h p a e
has_next leg h p a left e part = found (of_phases p.phases p.answered left a.is_taken (a.back (e ∷ []) part))
  where
    of_phases : (phases : Leg) (ns : List ℕ) → (phases ≡ []) ⊎ (0 < open_count (threads_of phases) ns) → IsTaken (suc a.base) (threads_of phases) a.now ns
        → ArePartOfPhases (suc a.base) phases (a.now ++ e ∷ [])
        → (i : ℕ) × (e.pass ≡ suc a.base + i) × (call_of (threads_of phases) ns i ≡ Some e.call)
    of_phases [] ns some t more = absurd (omega (arith, ap length more, length-append a.now (e ∷ [])))
    of_phases (threads ∷ later) ns some t more =
        elim some [
          | inl none ↦ absurd (cc none)
          | inr lt ↦ next_taken (suc a.base) threads a.now ns e t (in_phase (suc a.base) threads later a.now ns e t lt more)
        ]

    found : (i : ℕ) × (e.pass ≡ suc a.base + i) × (call_of (threads_of p.phases) p.answered i ≡ Some e.call) → HasNext leg h p a e
    found w = record { thread = w.0; pass = w.1; call = w.2; seat_is = ap (seat leg) w.1 ∙ seat_is_here leg h p a w.0 e.call w.2 }

-- ---- the next call of a thread of a phase

next_is : (p : Progress) (i : ℕ) (c : Call) → call_of (threads_of p.phases) p.answered i ≡ Some c → next_call p p.number (suc i) ≡ Some (i, c)
next_is p i c e = ap (λ b. cond b (with_thread i (call_of (threads_of p.phases) p.answered i)) None) (eq-eqb p.number p.number refl) ∙ ap (with_thread i) e

-- what is next is a call of that thread in that phase
pub record IsNext (p : Progress) (phase thread i : ℕ) (c : Call) : Type 0 where
  pub phase_is : phase ≡ p.number
  pub thread_is : thread ≡ suc i
  pub call_is : call_of (threads_of p.phases) p.answered i ≡ Some c

pub next_means : (p : Progress) (phase thread i : ℕ) (c : Call) → next_call p phase thread ≡ Some (i, c) → IsNext p phase thread i c
next_means p phase zero i c e = absurd (cc e)
next_means p phase (suc t) i c e =
    dite (ℕ_discrete phase p.number)
    (λ same.
    let found : with_thread t (call_of (threads_of p.phases) p.answered t) ≡ Some (i, c) =
    ap (λ b. cond b (with_thread t (call_of (threads_of p.phases) p.answered t)) None) (sym (eq-eqb phase p.number same)) ∙ e in
    let w = of_thread t (call_of (threads_of p.phases) p.answered t) found in
    record { phase_is = same; thread_is = ap suc w.0; call_is = ap (call_of (threads_of p.phases) p.answered) (sym w.0) ∙ w.1 })
    (λ other. absurd (let none : None ≡ Some (i, c) = ap (λ b. cond b (with_thread t (call_of (threads_of p.phases) p.answered t)) None)
    (sym (ne_eqb phase p.number other)) ∙ e in cc none))
  where
    of_thread : (k : ℕ) (o : Option Call) → with_thread k o ≡ Some (i, c) → (k ≡ i) × (o ≡ Some c)
    of_thread k None same = absurd (cc same)
    of_thread k (Some x) same = let pair : (k, x) ≡ (i, c) = cc same in (ap (λ (q : ℕ × Call). q.0) pair, ap (λ (q : ℕ × Call). Some q.1) pair)

no_such : {A : Type 0} (x : A) → None ≡ Some x → ⊥
no_such x e = cc e

-- where there is none, no entry of the thread may follow
pub none_follows : (leg : Leg) (h : List Entry) (p : Progress) → (a : IsAt leg h p) → IsSettled p → (phase thread : ℕ) → next_call p phase thread ≡ None
    → (e : Entry) → seat leg e.pass ≡ (phase, thread) → ArePartOfPhases 1 leg (h ++ e ∷ []) → ⊥
none_follows leg h p a left phase thread none e here part =
    let n = has_next leg h p a left e part in
    let same : (phase, thread) ≡ (p.number, suc n.thread) = sym here ∙ n.seat_is in
    let found : next_call p phase thread ≡ Some (n.thread, e.call) = ap (λ (s : Seat). next_call p s.0 s.1) same ∙ next_is p n.thread e.call n.call in
    no_such (n.thread, e.call) (sym none ∙ found)

-- ---- the entry of a call that is next

abbrev pub entry_of : ℕ → Plain → Call → Entry
entry_of pass u c = record { pass = pass; call = c; reply = (answer u c).0 }

pub record Goes (first : Plain) (leg : Leg) (h : List Entry) (p : Progress) (i : ℕ) (c : Call) : Type 0 where
  pub entry : Entry
  pub is_entry : entry ≡ entry_of entry.pass (after first h) c
  pub next : MayFollow first leg h entry
  pub seat_is : seat leg entry.pass ≡ (p.number, suc i)
  pub now : IsAt leg (h ++ entry ∷ []) (taken i p)
  pub least : ((j : ℕ) → j < i → call_of (threads_of p.phases) p.answered j ≡ None) → IsSettled p → (e : Entry) → e.pass < entry.pass
      → ¬ MayFollow first leg h e

pub goes : (first : Plain) (leg : Leg) (h : List Entry) (p : Progress) → IsLegal first h → IsAt leg h p → (i : ℕ) (c : Call)
    → call_of (threads_of p.phases) p.answered i ≡ Some c → Goes first leg h p i c
goes first leg h p legal a i c call =
    let e : Entry = entry_of (suc a.base + i) (after first h) c in
    let now : IsAt leg (h ++ e ∷ []) (taken i p) = at_taken leg h p i e a call refl in
    record {
      entry = e;
      is_entry = refl;
      next = record { legal = legal_more first h e legal refl; calls = at_part leg (h ++ e ∷ []) (taken i p) now };
      seat_is = seat_is_here leg h p a i c call;
      now = now;
      least = λ none left x lt may.
          let n = has_next leg h p a left x may.calls in
          let gone : call_of (threads_of p.phases) p.answered n.thread ≡ None = none n.thread (omega (arith, n.pass, lt)) in
          absurd (let z : None ≡ Some x.call = sym gone ∙ n.call in cc z);
    }

-- where no thread has a call left, no phase is left
pub all_answered : (leg : Leg) (h : List Entry) (p : Progress) → IsAt leg h p → IsSettled p → ((i : ℕ) → call_of (threads_of p.phases) p.answered i ≡ None)
    → p.phases ≡ []
all_answered leg h p a left none =
    elim left [
      | inl over ↦ over
      | inr lt ↦
          let s = some_open (suc a.base) (threads_of p.phases) a.now p.answered lt in
          absurd (let z : None ≡ Some s.1 = sym (none s.0) ∙ s.2 in cc z)
    ]
