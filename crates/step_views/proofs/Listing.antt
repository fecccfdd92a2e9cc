-- Stretches, each told once.
use Rattle.std.proofs.Common.{◌≡◌, ℕ, Bool, true, false, eqb, cond, List, [], ◌∷◌, ◌++◌, inl, inr, refl, sym, subst}
use Rattle.std.proofs.lemmas.Bool.{and_parts, or_cases, eqb-true}
use Rattle.std.specs.List.{AllByRecursion}
use Rattle.step_views.specs.Pairs.{is_same, is_told, with_stretch, all_told}

pub told_more : (told xs ys : List (ℕ × ℕ)) → all_told told (xs ++ ys) ≡ all_told (all_told told xs) ys
told_more told [] ys = refl
told_more told (x ∷ xs) ys = told_more (with_stretch told x) xs ys

module _ (P : ℕ × ℕ → Type 0) where
  all_first : (xs ys : List (ℕ × ℕ)) → AllByRecursion P (xs ++ ys) → AllByRecursion P xs
  all_first [] ys h = tt
  all_first (x ∷ xs) ys h = (h.0, all_first xs ys h.1)

  all_last : (xs : List (ℕ × ℕ)) (y : ℕ × ℕ) → AllByRecursion P (xs ++ y ∷ []) → P y
  all_last [] y h = h.0
  all_last (x ∷ xs) y h = all_last xs y h.1

  -- what is told is told, also where it was before
  of_told : (y : ℕ × ℕ) (xs : List (ℕ × ℕ)) → is_told y xs ≡ true → AllByRecursion P xs → P y
  of_told y [] e h = absurd cc
  of_told y (x ∷ xs) e h =
      elim (or_cases (is_same y x) (is_told y xs) e) [
        | inl same ↦
            let both = and_parts (eqb y.0 x.0) (eqb y.1 x.1) same in
            let is : y ≡ x = λ d. (eqb-true y.0 x.0 both.0 d, eqb-true y.1 x.1 both.1 d) in
            subst P (sym is) h.0
        | inr later ↦ of_told y xs later h.1
      ]

  with_both : (told : List (ℕ × ℕ)) (y : ℕ × ℕ) (b : Bool) → is_told y told ≡ b → AllByRecursion P (cond b told (told ++ y ∷ [])) → AllByRecursion P told × P y
  with_both told y true is h = (h, of_told y told is h)
  with_both told y false is h = (all_first told (y ∷ []) h, all_last told y h)

  pub told_before : (told xs : List (ℕ × ℕ)) → AllByRecursion P (all_told told xs) → AllByRecursion P told
  told_before told [] h = h
  told_before told (x ∷ xs) h = (with_both told x (is_told x told) refl (told_before (with_stretch told x) xs h)).0

  pub told_all : (told xs : List (ℕ × ℕ)) → AllByRecursion P (all_told told xs) → AllByRecursion P xs
  told_all told [] h = tt
  told_all told (x ∷ xs) h = (
    (with_both told x (is_told x told) refl (told_before (with_stretch told x) xs h)).1,
    told_all (with_stretch told x) xs h,
  )
