-- A list of which one element more is told.
use Rattle.std.proofs.Common.{◌≡◌, ◌≢◌, ◌<◌, ◌≤◌, ℕ, zero, suc, ◌+◌, List, [], ◌∷◌, drop, length, Some, inl, inr, sym, ap, ◌∙◌, subst, arith, add-one}
use Rattle.std.specs.Prelude.{slice_get, slice_set}
use Rattle.std.proofs.lemmas.Bool.{cases_eq, cases_lt}
use Rattle.std.proofs.lemmas.List.{get_or-set_same, get_or-set_other, length-set}
use Rattle.std.proofs.lemmas.Option.{slice_get-get_or, slice_get_past}

module _ {A : Type 0} (xs : List A) (at : ℕ) (x : A) where
  same_length : length (slice_set xs at x) ≡ length xs
  same_length = length-set xs at x

  here : at < length xs → slice_get (slice_set xs at x) at ≡ Some x
  here within =
      slice_get-get_or (slice_set xs at x) at x (subst (λ (n : ℕ). at < n) (sym same_length) within) ∙ ap Some (get_or-set_same xs at x x within)

  there : (i : ℕ) → i ≢ at → slice_get (slice_set xs at x) i ≡ slice_get xs i
  there i other =
      elim (cases_lt i (length xs)) [
        | inl low ↦
            slice_get-get_or (slice_set xs at x) i x (subst (λ (n : ℕ). i < n) (sym same_length) low)
            ∙ ap Some (get_or-set_other xs at i x x other) ∙ sym (slice_get-get_or xs i x low)
        | inr past ↦
            slice_get_past (slice_set xs at x) i (subst (λ (n : ℕ). n ≤ i) (sym same_length) past) ∙ sym (slice_get_past xs i past)
      ]

  -- the first elements are those of another list
  pub told_next : (ys : List A) → at < length xs → slice_get ys at ≡ Some x → ((i : ℕ) → i < at → slice_get xs i ≡ slice_get ys i) → (i : ℕ) → i < at + 1
      → slice_get (slice_set xs at x) i ≡ slice_get ys i
  told_next ys within is before i below =
      elim (cases_eq i at) [
        | inl same ↦ ap (slice_get (slice_set xs at x)) same ∙ here within ∙ sym is ∙ ap (slice_get ys) (sym same)
        | inr other ↦ there i other ∙ before i (omega (arith, below, other))
      ]

  -- those behind stay
  pub rest_next : (old : List A) → ((i : ℕ) → at ≤ i → slice_get xs i ≡ slice_get old i) → (i : ℕ) → at + 1 ≤ i
      → slice_get (slice_set xs at x) i ≡ slice_get old i
  rest_next old before i past = there i (λ (same : i ≡ at). omega (arith, past, same)) ∙ before i (omega (arith, past))

  pub length_next : (n : ℕ) → length xs ≡ n → length (slice_set xs at x) ≡ n
  length_next n is = same_length ∙ is

  -- the same, as far as the list goes
  pub told_so_far : (ys : List A) → slice_get ys at ≡ Some x → ((i : ℕ) → i < at → i < length xs → slice_get xs i ≡ slice_get ys i) → (i : ℕ) → i < at + 1
      → i < length (slice_set xs at x) → slice_get (slice_set xs at x) i ≡ slice_get ys i
  told_so_far ys is before i below within =
      let inside : i < length xs = subst (λ (n : ℕ). i < n) same_length within in
      elim (cases_eq i at) [
        | inl same ↦ ap (slice_get (slice_set xs at x)) same ∙ here (subst (λ (k : ℕ). k < length xs) same inside) ∙ sym is ∙ ap (slice_get ys) (sym same)
        | inr other ↦ there i other ∙ before i (omega (arith, below, other)) inside
      ]

-- ---- what is left from a place on

module _ {A : Type 0} (ys : List A) (x : A) where
  first_left : (xs : List A) (at : ℕ) → drop at xs ≡ x ∷ ys → slice_get xs at ≡ Some x
  first_left [] zero e = absurd cc
  first_left [] (suc at) e = absurd cc
  first_left (y ∷ zs) zero e = ap (λ (l : List A). slice_get l 0) e
  first_left (y ∷ zs) (suc at) e = first_left zs at e

  others_left : (xs : List A) (at : ℕ) → drop at xs ≡ x ∷ ys → drop (suc at) xs ≡ ys
  others_left [] zero e = absurd cc
  others_left [] (suc at) e = absurd cc
  others_left (y ∷ zs) zero e = ap (drop 1) e
  others_left (y ∷ zs) (suc at) e = others_left zs at e

  pub next_left : (xs : List A) (at : ℕ) → drop at xs ≡ x ∷ ys → (slice_get xs at ≡ Some x) × (drop (at + 1) xs ≡ ys)
  next_left xs at is = (first_left xs at is, rw add-one (others_left xs at is))
