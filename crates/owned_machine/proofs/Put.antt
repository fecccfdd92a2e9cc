-- Sets that are put into the places of what was pending, one after another.
use Rattle.std.proofs.Common.{◌≡◌, ℕ, zero, suc, ◌+◌, ◌<◌, ◌≤◌, true, List, [], ◌∷◌, length, length-set, drop, Option, Some, None, refl, sym, ap}
use Rattle.std.proofs.Common.{◌∙◌, inl, inr, arith}
use Rattle.std.specs.Prelude.{is_some, slice_get, slice_index_or}
use Rattle.std.proofs.lemmas.Bool.{cases_eq, cases_lt, both_ways}
use Rattle.std.proofs.lemmas.List.{get_or-set_same, get_or-set_other, get_or_past}
use Rattle.std.proofs.lemmas.Option.{get_or_from_slice_get}
use Rattle.lpi_pending.specs.InHand.{RedistParts, pend_in, set_pend}
use Rattle.lpi_pending.specs.PendingSets.{PendingSet}
use Rattle.lpi_pending.specs.Pend.{Pend}
use Rattle.owned_machine.specs.Stale.{ArePut, with_pending}

-- ---- the first of those that are left

pub dropped_first : {X : Type 0} (xs ys : List X) (v : ℕ) (x : X) → x ∷ ys ≡ drop v xs → slice_get xs v ≡ Some x
dropped_first [] ys zero x e = absurd cc
dropped_first [] ys (suc v) x e = absurd cc
dropped_first (z ∷ zs) ys zero x e = cc
dropped_first (z ∷ zs) ys (suc v) x e = dropped_first zs ys v x e

pub dropped_rest : {X : Type 0} (xs ys : List X) (v : ℕ) (x : X) → x ∷ ys ≡ drop v xs → ys ≡ drop (v + 1) xs
dropped_rest [] ys zero x e = absurd cc
dropped_rest [] ys (suc v) x e = absurd cc
dropped_rest (z ∷ zs) ys zero x e = cc
dropped_rest {X} (z ∷ zs) ys (suc v) x e =
    let next : v + 1 + 1 ≡ suc (v + 1) = omega arith in
    dropped_rest zs ys v x e ∙ ap (λ (k : ℕ). drop k (z ∷ zs)) (let same : suc (v + 1) ≡ suc v + 1 = omega arith in same)

pub dropped_within : {X : Type 0} (xs ys : List X) (v : ℕ) (x : X) → x ∷ ys ≡ drop v xs → v < length xs
dropped_within [] ys zero x e = absurd cc
dropped_within [] ys (suc v) x e = absurd cc
dropped_within (z ∷ zs) ys zero x e = omega arith
dropped_within (z ∷ zs) ys (suc v) x e = let rest = dropped_within zs ys v x e in omega (arith, rest)

pub dropped_all : {X : Type 0} (xs : List X) (v : ℕ) → [] ≡ drop v xs → length xs ≤ v
dropped_all [] v e = omega arith
dropped_all (z ∷ zs) zero e = absurd cc
dropped_all (z ∷ zs) (suc v) e = let rest = dropped_all zs v e in omega (arith, rest)

-- ---- one more

held_within : {X : Type 0} (xs : List (Option X)) (n : ℕ) → is_some (slice_index_or xs n None) ≡ true → n < length xs
held_within xs n some =
    elim (cases_lt n (length xs)) [
      | inl lt ↦ lt
      | inr past ↦ absurd (both_ways (is_some (slice_index_or xs n None)) (ap is_some (get_or_past xs n None past)) some)
    ]

pub none_put : (old : RedistParts) (sets : List PendingSet) → ArePut old sets 0 old
none_put old sets = record { confs = refl; long = refl; put = λ v p lt is. absurd (omega (arith, lt)); rest = λ v other. refl }

pub next_held : (old now : RedistParts) (sets : List PendingSet) (n : ℕ) → ArePut old sets n now → is_some (pend_in old n) ≡ true
    → is_some (pend_in now n) ≡ true
next_held old now sets n h some = ap (λ (o : Option Pend). is_some o) (h.rest n (λ lt. omega (arith, lt))) ∙ some

pub one_put : (old now new : RedistParts) (sets : List PendingSet) (n : ℕ) (x : PendingSet) → ArePut old sets n now → slice_get sets n ≡ Some x
    → is_some (pend_in old n) ≡ true → new ≡ set_pend now n (with_pending x (pend_in now n)) → ArePut old sets (n + 1) new
one_put old now new sets n x h at some made = record {
  confs = ap (λ (r : RedistParts). r.confs) made ∙ h.confs;
  long = ap (λ (r : RedistParts). length r.pends) made ∙ length-set now.pends n (with_pending x (pend_in now n)) ∙ h.long;
  put = λ v p lt is. elim (cases_eq v n) [
    | inl same ↦ here v p same is
    | inr apart ↦ other v apart ∙ h.put v p (omega (arith, lt, apart)) is
  ];
  rest = λ v not_below.
      let apart : (v ≡ n → ⊥) = λ e. not_below (omega (arith, e)) in
      other v apart ∙ h.rest v (λ lt. not_below (omega (arith, lt)));
}
  where
    other : (v : ℕ) → (v ≡ n → ⊥) → pend_in new v ≡ pend_in now v
    other v apart = ap (λ (r : RedistParts). pend_in r v) made ∙ get_or-set_other now.pends n v (with_pending x (pend_in now n)) None apart

    unchanged : pend_in now n ≡ pend_in old n
    unchanged = h.rest n (λ lt. omega (arith, lt))

    here : (v : ℕ) (p : Pend) → v ≡ n → pend_in old v ≡ Some p → pend_in new v ≡ Some (record p { pending = slice_index_or sets v p.pending })
    here v p same is =
        ap (λ (k : ℕ). pend_in new k) same
        ∙ ap (λ (r : RedistParts). pend_in r n) made
        ∙ get_or-set_same now.pends n (with_pending x (pend_in now n)) None (held_within now.pends n (ap (λ (o : Option Pend). is_some o) unchanged ∙ some))
        ∙ ap (λ (o : Option Pend). with_pending x o) (unchanged ∙ ap (λ (k : ℕ). pend_in old k) (sym same) ∙ is)
        ∙ ap (λ (s : PendingSet). Some (record p { pending = s }))
        (sym (get_or_from_slice_get sets n x p.pending at) ∙ ap (λ (k : ℕ). slice_index_or sets k p.pending) (sym same))
