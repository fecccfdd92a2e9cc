-- Parts of a leg's phases.
use Rattle.std.proofs.Common.{◌≡◌, ℕ, suc, ◌+◌, ◌<◌, ◌≤◌, List, [], ◌∷◌, ◌++◌, length, refl, sym, ap, subst, ◌∙◌, inl, inr, arith, append_assoc, append-nil}
use mathlib.Core.List.{IsPrefix}
use mathlib.Core.Logic.{dite}
use native.Mathlib.Decide.{ℕ_discrete}
use Rattle.its_plain.specs.History.{calls_by}
use Rattle.its_plain.specs.Runs.{Phase, Leg, IsOfPasses, HasCalls, HasFirstCalls, IsPhase, IsPartOfPhase, ArePhases, ArePartOfPhases}
use Rattle.its_plain.specs.declared.call.Call.{Call}
use Rattle.its_plain.specs.declared.call.Entry.{Entry}
use Rattle.trace_check.proofs.Lists.{front_none, cuts, all_front, all_rest, prefix_front, no_longer, calls_append, calls_here}

-- ---- one phase

first_front : (pass : ℕ) (threads : Phase) (a b : List Entry) → HasFirstCalls pass threads (a ++ b) → HasFirstCalls pass threads a
first_front pass [] a b p = tt
first_front pass (calls ∷ threads) a b p =
    let whole : IsPrefix (calls_by pass a ++ calls_by pass b) calls = subst (λ (z : List Call). IsPrefix z calls) (calls_append pass a b) p.0 in
    (prefix_front (calls_by pass a) (calls_by pass b) calls whole, first_front (suc pass) threads a b p.1)

pub phase_front : (pass : ℕ) (threads : Phase) (a b : List Entry) → IsPartOfPhase pass threads (a ++ b) → IsPartOfPhase pass threads a
phase_front pass threads a b p = record { only = all_front (IsOfPasses pass (length threads)) a b p.only; calls = first_front pass threads a b p.calls }

has_first : (pass : ℕ) (threads : Phase) (h : List Entry) → HasCalls pass threads h → HasFirstCalls pass threads h
has_first pass [] h p = tt
has_first pass (calls ∷ threads) h p = (([], append-nil (calls_by pass h) ∙ p.0), has_first (suc pass) threads h p.1)

pub whole_phase : (pass : ℕ) (threads : Phase) (h : List Entry) → IsPhase pass threads h → IsPartOfPhase pass threads h
whole_phase pass threads h p = record { only = p.only; calls = has_first pass threads h p.calls }

first_none : (pass : ℕ) (threads : Phase) → HasFirstCalls pass threads []
first_none pass [] = tt
first_none pass (calls ∷ threads) = ((calls, refl), first_none (suc pass) threads)

-- a thread whose calls are all made makes no other
no_other : (pass : ℕ) (threads : Phase) (a : List Entry) (e : Entry) (x : List Entry) → HasCalls pass threads a → HasFirstCalls pass threads (a ++ e ∷ x)
    → pass ≤ e.pass → e.pass < pass + length threads → ⊥
no_other pass [] a e x all some le lt = omega arith
no_other pass (calls ∷ threads) a e x all some le lt =
    dite (ℕ_discrete e.pass pass)
    (λ is.
    let split : calls_by pass (a ++ e ∷ x) ≡ calls_by pass a ++ e.call ∷ calls_by pass x = calls_append pass a (e ∷ x) ∙ ap (λ cs. calls_by pass a ++ cs)
    (calls_here pass e x is) in
    no_longer (calls_by pass a) e.call (calls_by pass x) calls all.0 (subst (λ (z : List Call). IsPrefix z calls) split some.0))
    (λ ne. no_other (suc pass) threads a e x all.1 some.1 (omega (arith, ne)) (omega arith))

-- nothing follows a whole phase in that phase
pub nothing_more : (pass : ℕ) (threads : Phase) (a x : List Entry) → IsPhase pass threads a → IsPartOfPhase pass threads (a ++ x) → x ≡ []
nothing_more pass threads a [] whole part = refl
nothing_more pass threads a (e ∷ x) whole part =
    let of = (all_rest (IsOfPasses pass (length threads)) a (e ∷ x) part.only).0 in
    absurd (no_other pass threads a e x whole.calls part.calls of.0 of.1)

-- ---- phases

pub none_yet : (pass : ℕ) (leg : Leg) → ArePartOfPhases pass leg []
none_yet pass [] = refl
none_yet pass (threads ∷ phases) = inl (record { only = tt; calls = first_none pass threads })

pub part_front : (pass : ℕ) (leg : Leg) (a b : List Entry) → ArePartOfPhases pass leg (a ++ b) → ArePartOfPhases pass leg a
part_front pass [] a b p = front_none a b p
part_front pass (threads ∷ phases) a b p =
    elim p [
      | inl part ↦ inl (phase_front pass threads a b part)
      | inr w ↦
          elim (cuts a b w.0 w.1 w.2) [
            | inl v ↦ inl (phase_front pass threads a v.0 (subst (IsPartOfPhase pass threads) v.1 (whole_phase pass threads w.0 w.3)))
            | inr v ↦ inr (w.0, v.0, v.1, w.3, part_front (pass + length threads) phases v.0 b (subst (ArePartOfPhases (pass + length threads) phases) v.2 w.4))
          ]
    ]

pub whole_part : (pass : ℕ) (leg : Leg) (h : List Entry) → ArePhases pass leg h → ArePartOfPhases pass leg h
whole_part pass [] h p = p
whole_part pass (threads ∷ phases) h p = inr (p.0, p.1, p.2, p.3, whole_part (pass + length threads) phases p.1 p.4)

-- what follows a whole phase is of later phases
pub behind : (pass : ℕ) (threads : Phase) (phases : Leg) (now g : List Entry) → IsPhase pass threads now → ArePartOfPhases pass (threads ∷ phases) (now ++ g)
    → ArePartOfPhases (pass + length threads) phases g
behind pass threads phases now g whole p =
    let later : List Entry → Type 0 = ArePartOfPhases (pass + length threads) phases in
    elim p [
      | inl part ↦ subst later (sym (nothing_more pass threads now g whole part)) (none_yet (pass + length threads) phases)
      | inr w ↦
          elim (cuts now g w.0 w.1 w.2) [
            | inl v ↦
                let none : v.0 ≡ [] = nothing_more pass threads now v.0 whole (subst (IsPartOfPhase pass threads) v.1 (whole_phase pass threads w.0 w.3)) in
                subst later (sym (v.2 ∙ ap (λ (x : List Entry). x ++ w.1) none)) w.4
            | inr v ↦
                let none : v.0 ≡ [] = nothing_more pass threads w.0 v.0 w.3 (subst (IsPartOfPhase pass threads) v.1 (whole_phase pass threads now whole)) in
                subst later (v.2 ∙ ap (λ (x : List Entry). x ++ g) none) w.4
          ]
    ]

-- nothing follows a whole leg
pub leg_over : (pass : ℕ) (leg : Leg) (h g : List Entry) → ArePhases pass leg h → ArePartOfPhases pass leg (h ++ g) → g ≡ []
leg_over pass [] h g whole part = ap (λ (x : List Entry). x ++ g) (sym whole) ∙ part
leg_over pass (threads ∷ phases) h g whole part =
    let cut : h ++ g ≡ whole.0 ++ (whole.1 ++ g) = ap (λ (x : List Entry). x ++ g) whole.2 ∙ append_assoc whole.0 whole.1 g in
    leg_over (pass + length threads) phases whole.1 g whole.4
    (behind pass threads phases whole.0 (whole.1 ++ g) whole.3 (subst (ArePartOfPhases pass (threads ∷ phases)) cut part))
