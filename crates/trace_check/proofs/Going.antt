-- A history of a part of a leg, and how far the leg's calls are answered after it.
use Rattle.std.proofs.Common.{◌≡◌, ◌⊎◌, ℕ, suc, ◌+◌, ◌-◌, ◌<◌, leb, cond, false, List, [], ◌∷◌, ◌++◌, length, Some, refl, sym, ap, subst, ◌∙◌, inl, inr, arith}
use Rattle.std.proofs.Common.{append_assoc, append-nil, eq-eqb, ne_eqb}
use Rattle.std.proofs.lemmas.Bool.{lt-leb}
use Rattle.std.specs.List.{AllByRecursion}
use mathlib.Core.Logic.{dite}
use native.Mathlib.Decide.{ℕ_discrete}
use Rattle.its_plain.specs.Runs.{Phase, Leg, IsPhase, ArePhases, ArePartOfPhases, IsOfPasses}
use Rattle.its_plain.specs.declared.call.Entry.{Entry}
use Rattle.its_history.specs.Histories.{seat_from}
use Rattle.its_history.specs.Reports.{thread_counts}
use Rattle.trace_check.specs.Cursors.{Progress, at, threads_of, later_of, zeros, open_count, opened, call_of, more, settled, taken}
use Rattle.trace_check.specs.Differences.{seat}
use Rattle.trace_check.proofs.Parts.{behind}
use Rattle.trace_check.proofs.Taken.{IsTaken, none_taken, whole_taken, taken_part, taken_more}

-- what may follow the history is what may follow the entries of this phase, whose passes come after so many
pub record IsAt (leg : Leg) (h : List Entry) (p : Progress) : Type 0 where
  pub now : List Entry
  pub base : ℕ
  pub whole : (g : List Entry) → ArePhases (suc base) p.phases (now ++ g) → ArePhases 1 leg (h ++ g)
  pub part : (g : List Entry) → ArePartOfPhases (suc base) p.phases (now ++ g) → ArePartOfPhases 1 leg (h ++ g)
  pub back : (g : List Entry) → ArePartOfPhases 1 leg (h ++ g) → ArePartOfPhases (suc base) p.phases (now ++ g)
  pub seats : (t : ℕ) → 0 < t → seat leg (base + t) ≡ seat_from p.number (thread_counts p.phases) t
  pub is_taken : IsTaken (suc base) (threads_of p.phases) now p.answered

-- where some phase is left, it has calls left
abbrev pub IsSettled : Progress → Type 0
IsSettled p = (p.phases ≡ []) ⊎ (0 < open_count (threads_of p.phases) p.answered)

-- ---- the first call

pub at_first : (leg : Leg) → IsAt leg [] (at 1 leg (zeros (threads_of leg)))
at_first leg = record {
  now = [];
  base = 0;
  whole = λ g p. p;
  part = λ g p. p;
  back = λ g p. p;
  seats = λ t some. let z : 0 + t ≡ t = omega arith in ap (seat leg) z;
  is_taken = record { only = tt; taken = none_taken 1 (threads_of leg) };
}

-- ---- the next phase

later_seat : (n count t : ℕ) (counts : List ℕ) → 0 < t → seat_from n (count ∷ counts) (count + t) ≡ seat_from (n + 1) counts t
later_seat n count t counts some =
    let past : leb (count + t) count ≡ false = lt-leb (count + t) count (omega arith) in
    let rest : count + t - count ≡ t = omega arith in
    ap (λ b. cond b (n, count + t) (seat_from (n + 1) counts (count + t - count))) past ∙ ap (seat_from (n + 1) counts) rest

pub at_later : (leg : Leg) (h : List Entry) (n : ℕ) (threads : Phase) (later : Leg) (ns : List ℕ) → IsAt leg h (at n (threads ∷ later) ns)
    → open_count threads ns ≡ 0 → IsAt leg h (at (n + 1) later (zeros (threads_of later)))
at_later leg h n threads later ns a none =
    let phase : IsPhase (suc a.base) threads a.now = whole_taken (suc a.base) threads a.now ns a.is_taken none in
    let next : suc a.base + length threads ≡ suc (a.base + length threads) = omega arith in
    record {
      now = [];
      base = a.base + length threads;
      whole = λ g p. a.whole g (a.now, g, refl, phase, subst (λ (k : ℕ). ArePhases k later g) (sym next) p);
      part = λ g p. a.part g (inr (a.now, g, refl, phase, subst (λ (k : ℕ). ArePartOfPhases k later g) (sym next) p));
      back = λ g p. subst (λ (k : ℕ). ArePartOfPhases k later g) next (behind (suc a.base) threads later a.now g phase (a.back g p));
      seats = λ t some.
          let sum : a.base + length threads + t ≡ a.base + (length threads + t) = omega arith in
          ap (seat leg) sum ∙ (a.seats (length threads + t) (omega arith) ∙ later_seat n (length threads) t (thread_counts later) some);
      is_taken = record { only = tt; taken = none_taken (suc (a.base + length threads)) (threads_of later) };
    }

-- ---- phases without calls are passed over

pub at_opened : (leg : Leg) (h : List Entry) (n : ℕ) (phases : Leg) → IsAt leg h (at n phases (zeros (threads_of phases))) → IsAt leg h (opened n phases)
at_opened leg h n [] a = a
at_opened leg h n (threads ∷ later) a =
    let count : ℕ = open_count threads (zeros threads) in
    dite (ℕ_discrete count 0)
    (λ none.
    let same : opened n (threads ∷ later) ≡ opened (n + 1) later = ap (λ b. cond b (opened (n + 1) later) (at n (threads ∷ later) (zeros threads)))
    (eq-eqb count 0 none) in
    subst (IsAt leg h) (sym same) (at_opened leg h (n + 1) later (at_later leg h n threads later (zeros threads) a none)))
    (λ some.
    let same : opened n (threads ∷ later) ≡ at n (threads ∷ later) (zeros threads) =
    ap (λ b. cond b (opened (n + 1) later) (at n (threads ∷ later) (zeros threads))) (ne_eqb count 0 some) in
    subst (IsAt leg h) (sym same) a)

pub opened_settled : (n : ℕ) (phases : Leg) → IsSettled (opened n phases)
opened_settled n [] = inl refl
opened_settled n (threads ∷ later) =
    let count : ℕ = open_count threads (zeros threads) in
    dite (ℕ_discrete count 0)
    (λ none.
    let same : opened n (threads ∷ later) ≡ opened (n + 1) later = ap (λ b. cond b (opened (n + 1) later) (at n (threads ∷ later) (zeros threads)))
    (eq-eqb count 0 none) in
    subst IsSettled (sym same) (opened_settled (n + 1) later))
    (λ some.
    let same : opened n (threads ∷ later) ≡ at n (threads ∷ later) (zeros threads) =
    ap (λ b. cond b (opened (n + 1) later) (at n (threads ∷ later) (zeros threads))) (ne_eqb count 0 some) in
    subst IsSettled (sym same) (inr (omega (arith, some))))

pub at_settled : (leg : Leg) (h : List Entry) (n : ℕ) (threads : Phase) (later : Leg) (ns : List ℕ) → IsAt leg h (at n (threads ∷ later) ns)
    → IsAt leg h (settled n (threads ∷ later) ns)
at_settled leg h n threads later ns a =
    let count : ℕ = open_count threads ns in
    dite (ℕ_discrete count 0)
    (λ none.
    let same : settled n (threads ∷ later) ns ≡ opened (n + 1) later = ap (λ b. cond b (opened (n + 1) later) (at n (threads ∷ later) ns))
    (eq-eqb count 0 none) in
    subst (IsAt leg h) (sym same) (at_opened leg h (n + 1) later (at_later leg h n threads later ns a none)))
    (λ some.
    let same : settled n (threads ∷ later) ns ≡ at n (threads ∷ later) ns = ap (λ b. cond b (opened (n + 1) later) (at n (threads ∷ later) ns))
    (ne_eqb count 0 some) in
    subst (IsAt leg h) (sym same) a)

pub settled_settled : (n : ℕ) (phases : Leg) (ns : List ℕ) → IsSettled (settled n phases ns)
settled_settled n phases ns =
    let count : ℕ = open_count (threads_of phases) ns in
    dite (ℕ_discrete count 0)
    (λ none.
    let same : settled n phases ns ≡ opened (n + 1) (later_of phases) = ap (λ b. cond b (opened (n + 1) (later_of phases)) (at n phases ns))
    (eq-eqb count 0 none) in
    subst IsSettled (sym same) (opened_settled (n + 1) (later_of phases)))
    (λ some.
    let same : settled n phases ns ≡ at n phases ns = ap (λ b. cond b (opened (n + 1) (later_of phases)) (at n phases ns)) (ne_eqb count 0 some) in
    subst IsSettled (sym same) (inr (omega (arith, some))))

-- ---- one more entry

at_more : (leg : Leg) (h : List Entry) (n : ℕ) (phases : Leg) (ns : List ℕ) (i : ℕ) (e : Entry) → (a : IsAt leg h (at n phases ns))
    → call_of (threads_of phases) ns i ≡ Some e.call → e.pass ≡ suc a.base + i
    → IsAt leg (h ++ e ∷ []) (at n phases (more ns i))
at_more leg h n phases ns i e a call is =
    let one : (x g : List Entry) → (x ++ e ∷ []) ++ g ≡ x ++ (e ∷ g) = λ x g. append_assoc x (e ∷ []) g in
    record {
      now = a.now ++ e ∷ [];
      base = a.base;
      whole = λ g p. subst (ArePhases 1 leg) (sym (one h g)) (a.whole (e ∷ g) (subst (ArePhases (suc a.base) phases) (one a.now g) p));
      part = λ g p. subst (ArePartOfPhases 1 leg) (sym (one h g)) (a.part (e ∷ g) (subst (ArePartOfPhases (suc a.base) phases) (one a.now g) p));
      back = λ g p. subst (ArePartOfPhases (suc a.base) phases) (sym (one a.now g)) (a.back (e ∷ g) (subst (ArePartOfPhases 1 leg) (one h g) p));
      seats = a.seats;
      is_taken = taken_more (suc a.base) (threads_of phases) a.now ns i e a.is_taken call is;
    }

pub at_taken : (leg : Leg) (h : List Entry) (p : Progress) (i : ℕ) (e : Entry) → (a : IsAt leg h p) → call_of (threads_of p.phases) p.answered i ≡ Some e.call
    → e.pass ≡ suc a.base + i → IsAt leg (h ++ e ∷ []) (taken i p)
at_taken leg h p i e a call is = taken_in p.phases p.number p.answered a call is
  where
    taken_in : (phases : Leg) (n : ℕ) (ns : List ℕ) → (b : IsAt leg h (at n phases ns)) → call_of (threads_of phases) ns i ≡ Some e.call
        → e.pass ≡ suc b.base + i → IsAt leg (h ++ e ∷ []) (settled n phases (more ns i))
    taken_in [] n ns b found same = absurd (cc found)
    taken_in (threads ∷ later) n ns b found same = at_settled leg (h ++ e ∷ []) n threads later (more ns i)
        (at_more leg h n (threads ∷ later) ns i e b found same)

-- the history is a part of the leg
pub at_part : (leg : Leg) (h : List Entry) (p : Progress) → IsAt leg h p → ArePartOfPhases 1 leg h
at_part leg h p a = subst (ArePartOfPhases 1 leg) (append-nil h)
    (a.part [] (subst (ArePartOfPhases (suc a.base) p.phases) (sym (append-nil a.now)) (now_part p.phases p.answered a.base a.now a.is_taken)))
  where
    now_part : (phases : Leg) (ns : List ℕ) (base : ℕ) (now : List Entry) → IsTaken (suc base) (threads_of phases) now ns
        → ArePartOfPhases (suc base) phases now
    now_part [] ns base [] t = refl
    now_part [] ns base (e ∷ now) t = absurd (omega (arith, t.only.0.0, t.only.0.1))
    now_part (threads ∷ later) ns base now t = inl (taken_part (suc base) threads now ns t)

-- where no phase is left, it is the whole leg
pub at_end : (leg : Leg) (h : List Entry) (p : Progress) → IsAt leg h p → p.phases ≡ [] → ArePhases 1 leg h
at_end leg h p a over = subst (ArePhases 1 leg) (append-nil h)
    (a.whole [] (subst (λ (phases : Leg). ArePhases (suc a.base) phases (a.now ++ [])) (sym over) (ap (λ (x : List Entry). x ++ []) none)))
  where
    nothing : (now : List Entry) → AllByRecursion (IsOfPasses (suc a.base) 0) now → now ≡ []
    nothing [] all = refl
    nothing (e ∷ now) all = absurd (omega (arith, all.0.0, all.0.1))

    none : a.now ≡ []
    none = nothing a.now (subst (λ (phases : Leg). AllByRecursion (IsOfPasses (suc a.base) (length (threads_of phases))) a.now) over a.is_taken.only)
