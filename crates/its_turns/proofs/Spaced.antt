-- Items that stand some places apart.
use Rattle.std.proofs.Common.{◌≡◌, ℕ, zero, suc, ◌+◌, ◌*◌, ◌<◌, List, [], ◌∷◌, length, set, get_or, refl, ap, sym, ◌∙◌, subst, arith}
use Rattle.std.proofs.Common.{get_or-set_other, get_or-set_same}
use Rattle.std.proofs.Math.Nat.{mul-suc, mul-add}
use mathlib.Core.Option.{Option, none, some}
use lib.ListN.{get_elem?}
use Rattle.its_turns.specs.Words.{spaced}

module _ {A : Type 0} (d : A) (gap : ℕ) (some_gap : 0 < gap) where
  pub spaced_long : (xs : List A) (k n : ℕ) → length (spaced d gap xs k n) ≡ n
  spaced_long xs k zero = refl
  spaced_long xs k (suc n) = ap suc (spaced_long xs (suc k) n)

  pub spaced_at : (xs : List A) (k n j : ℕ) → j < n → get_or (spaced d gap xs k n) j d ≡ get_or xs (gap * (k + j)) d
  spaced_at xs k zero j lt = absurd (omega arith)
  spaced_at xs k (suc n) zero lt = let z : k ≡ k + 0 = omega arith in ap (λ (i : ℕ). get_or xs (gap * i) d) z
  spaced_at xs k (suc n) (suc j) lt = let z : suc k + j ≡ k + suc j = omega arith in spaced_at xs (suc k) n j (omega arith)
      ∙ ap (λ (i : ℕ). get_or xs (gap * i) d) z

  -- a place before them
  pub spaced_before : (xs : List A) (i : ℕ) (x : A) (k n : ℕ) → i < gap * k → spaced d gap (set xs i x) k n ≡ spaced d gap xs k n
  spaced_before xs i x k zero lt = refl
  spaced_before xs i x k (suc n) lt =
      let rest = spaced_before xs i x (suc k) n (omega (arith, lt, mul-suc gap k)) in
      let here : get_or (set xs i x) (gap * k) d ≡ get_or xs (gap * k) d = get_or-set_other xs i (gap * k) x d (λ e. absurd (omega (arith, lt, e))) in
      λ t. here t ∷ rest t

  -- one of them
  pub spaced_set : (xs : List A) (k n j : ℕ) (x : A) → j < n → gap * (k + j) < length xs → spaced d gap (set xs (gap * (k + j)) x) k n ≡ set
      (spaced d gap xs k n) j x
  spaced_set xs k zero j x lt long = absurd (omega arith)
  spaced_set xs k (suc n) zero x lt long =
      let z : k + 0 ≡ k = omega arith in
      subst (λ (i : ℕ). spaced d gap (set xs (gap * i) x) k (suc n) ≡ x ∷ spaced d gap xs (suc k) n) (sym z)
      (let here : get_or (set xs (gap * k) x) (gap * k) d ≡ x = get_or-set_same xs (gap * k) x d (subst (λ (i : ℕ). gap * i < length xs) z long) in
      let rest = spaced_before xs (gap * k) x (suc k) n (omega (arith, some_gap, mul-suc gap k)) in
      λ t. here t ∷ rest t)
  spaced_set xs k (suc n) (suc j) x lt long =
      let z : k + suc j ≡ suc k + j = omega arith in
      subst (λ (i : ℕ). spaced d gap (set xs (gap * i) x) k (suc n) ≡ get_or xs (gap * k) d ∷ set (spaced d gap xs (suc k) n) j x) (sym z)
      (let here : get_or (set xs (gap * (suc k + j)) x) (gap * k) d ≡ get_or xs (gap * k) d = get_or-set_other xs (gap * (suc k + j)) (gap * k) x d
      (λ e. absurd (omega (arith, some_gap, e, mul-suc gap k, mul-add gap (suc k) j))) in
      let rest = spaced_set xs (suc k) n j x (omega arith) (subst (λ (i : ℕ). gap * i < length xs) z long) in
      λ t. here t ∷ rest t)

-- where an item stands that is not the filler
pub at_place : {A : Type 0} (xs : List (Option A)) (i : ℕ) (x : A) → get_or xs i none ≡ some x → get_elem? xs i ≡ some (some x)
at_place [] i x e = absurd cc
at_place (o ∷ xs) zero x e = ap some e
at_place (o ∷ xs) (suc i) x e = at_place xs i x e

pub at_item : {A : Type 0} (d : A) (xs : List A) (i : ℕ) (x : A) → get_elem? xs i ≡ some x → get_or xs i d ≡ x
at_item d [] i x e = absurd cc
at_item d (y ∷ xs) zero x e = cc
at_item d (y ∷ xs) (suc i) x e = at_item d xs i x e
