-- A place of a list that is set, looked at by what a function shows of it.
use Rattle.std.proofs.Common.{◌≡◌, ℕ, zero, suc, List, [], ◌∷◌, set, Option, Some, None, refl, ap}
use Rattle.std.specs.Prelude.{slice_get, slice_index_or}
use Rattle.std.specs.Option.{option_map}
use Rattle.std.proofs.lemmas.Option.{same_Some}

pub set_get : {X : Type 0} (xs : List X) (i : ℕ) (x y : X) → slice_get xs i ≡ Some x → slice_get (set xs i y) i ≡ Some y
set_get [] i x y e = absurd cc
set_get (z ∷ zs) zero x y e = refl
set_get (z ∷ zs) (suc i) x y e = set_get zs i x y e

pub set_get_other : {X : Type 0} (xs : List X) (i j : ℕ) (y : X) → (j ≡ i → ⊥) → slice_get (set xs i y) j ≡ slice_get xs j
set_get_other [] i j y other = refl
set_get_other (z ∷ zs) zero zero y other = absurd (other refl)
set_get_other (z ∷ zs) zero (suc j) y other = refl
set_get_other (z ∷ zs) (suc i) zero y other = refl
set_get_other (z ∷ zs) (suc i) (suc j) y other = set_get_other zs i j y (λ e. other (ap (λ (n : ℕ). suc n) e))

module _ {X Y : Type 0} (g : X → Y) where
  -- what is shown of a place that there is
  pub viewed : (xs : List X) (i : ℕ) (d : X) (y : Y) → option_map g (slice_get xs i) ≡ Some y → g (slice_index_or xs i d) ≡ y
  viewed [] i d y e = absurd cc
  viewed (z ∷ zs) zero d y e = same_Some (g z) y e
  viewed (z ∷ zs) (suc i) d y e = viewed zs i d y e

  -- of one that is set
  pub set_viewed : (xs : List X) (i : ℕ) (x : X) (y : Y) → option_map g (slice_get xs i) ≡ Some y → option_map g (slice_get (set xs i x) i) ≡ Some (g x)
  set_viewed [] i x y e = absurd cc
  set_viewed (z ∷ zs) zero x y e = refl
  set_viewed (z ∷ zs) (suc i) x y e = set_viewed zs i x y e

  -- the same is shown of each, where that of the set one stays
  pub set_looks : (xs : List X) (i j : ℕ) (x d : X) → g x ≡ g (slice_index_or xs i d) → option_map g (slice_get (set xs i x) j) ≡ option_map g (slice_get xs j)
  set_looks [] i j x d e = refl
  set_looks (z ∷ zs) zero zero x d e = ap (λ (y : Y). Some y) e
  set_looks (z ∷ zs) zero (suc j) x d e = refl
  set_looks (z ∷ zs) (suc i) zero x d e = refl
  set_looks (z ∷ zs) (suc i) (suc j) x d e = set_looks zs i j x d e

  -- what is shown is shown of something
  pub shown_of : (o : Option X) (y : Y) → option_map g o ≡ Some y → (x : X) × (o ≡ Some x) × (g x ≡ y)
  shown_of None y e = absurd cc
  shown_of (Some x) y e = (x, refl, same_Some (g x) y e)
