-- Lists of which one element at most passes a test: that one is found, in whatever order they are.
use Rattle.std.proofs.Common.{◌≡◌, ℕ, zero, suc, ◌+◌, ◌<◌, ◌≤◌, Bool, true, false, cond, List, [], ◌∷◌, length, get_or, Option, Some, None, Contains, find, count_by, IsPermutation}
use Rattle.std.proofs.Common.{refl, sym, ap, ◌∙◌, subst, arith}
use Rattle.std.proofs.lemmas.List.Sums.{sum_by-cons, get_or-le-sum_by}
use Rattle.std.proofs.lemmas.List.Sorted.{sum_by-IsPermutation, Contains-permutation, IsPermutation-sym}

module _ {X : Type 0} (p : X → Bool) where
  pub count_yes : (x : X) (xs : List X) → p x ≡ true → count_by p (x ∷ xs) ≡ 1 + count_by p xs
  count_yes x xs e = sum_by-cons (λ y. cond (p y) 1 0) x xs ∙ ap (λ (b : Bool). cond b 1 0 + count_by p xs) e

  pub count_no : (x : X) (xs : List X) → p x ≡ false → count_by p (x ∷ xs) ≡ count_by p xs
  count_no x xs e =
      let is : count_by p (x ∷ xs) ≡ 0 + count_by p xs = sum_by-cons (λ y. cond (p y) 1 0) x xs ∙ ap (λ (b : Bool). cond b 1 0 + count_by p xs) e in
      omega arith

  one : (xs : List X) (k : ℕ) (d : X) → k < length xs → p (get_or xs k d) ≡ true → 1 ≤ count_by p xs
  one xs k d lt e = subst (λ (b : Bool). cond b 1 0 ≤ count_by p xs) e (get_or-le-sum_by (λ y. cond (p y) 1 0) xs k d lt)

  -- two that pass are both counted
  pub two : (xs : List X) (i n : ℕ) (d : X) → i < n → n < length xs → p (get_or xs i d) ≡ true → p (get_or xs n d) ≡ true → 2 ≤ count_by p xs
  two [] i n d low lt a b = absurd (omega arith)
  two (x ∷ xs) i zero d low lt a b = absurd (omega arith)
  two (x ∷ xs) zero (suc n) d low lt a b = omega (arith, count_yes x xs a, one xs n d (omega arith) b)
  two (x ∷ xs) (suc i) (suc n) d low lt a b =
      elim (p x) as (λ (q : Bool). p x ≡ q → 2 ≤ count_by p (x ∷ xs)) [
        | true ↦ λ e. omega (arith, count_yes x xs e, two xs i n d (omega arith) (omega arith) a b)
        | false ↦ λ e. omega (arith, count_no x xs e, two xs i n d (omega arith) (omega arith) a b)
      ] refl

  only_found : (xs : List X) (x : X) (k : ℕ) → k < length xs → get_or xs k x ≡ x → p x ≡ true → count_by p xs ≤ 1 → find p xs ≡ Some x
  only_found [] x k lt is e few = absurd (omega arith)
  only_found (y ∷ ys) x zero lt is e few = ap (λ (b : Bool). cond b (Some y) (find p ys)) (ap p is ∙ e) ∙ ap Some is
  only_found (y ∷ ys) x (suc k) lt is e few =
      elim (p y) as (λ (q : Bool). p y ≡ q → find p (y ∷ ys) ≡ Some x) [
        | true ↦ λ yes. absurd (omega (arith, count_yes y ys yes, one ys k x (omega arith) (ap p is ∙ e)))
        | false ↦ λ no. ap (λ (b : Bool). cond b (Some y) (find p ys)) no
            ∙ only_found ys x k (omega arith) is e (omega (arith, count_no y ys no))
      ] refl

  found_passes : (xs : List X) (x : X) → find p xs ≡ Some x → p x ≡ true
  found_passes [] x e = absurd cc
  found_passes (y ∷ ys) x e =
      elim (p y) as (λ (q : Bool). p y ≡ q → cond q (Some y) (find p ys) ≡ Some x → p x ≡ true) [
        | true ↦ λ yes is. let same : y ≡ x = cc in sym (ap p same) ∙ yes
        | false ↦ λ no is. found_passes ys x is
      ] refl e

  found_there : (xs : List X) (x : X) → find p xs ≡ Some x → Contains xs x
  found_there [] x e = absurd cc
  found_there (y ∷ ys) x e =
      elim (p y) as (λ (q : Bool). cond q (Some y) (find p ys) ≡ Some x → Contains (y ∷ ys) x) [
        | true ↦ λ is. let same : y ≡ x = cc in (0, omega arith, same)
        | false ↦ λ is. let there = found_there ys x is in (suc there.0, omega (arith, there.1), there.2)
      ] e

  module _ (xs ys : List X) (same : IsPermutation xs ys) (few : count_by p ys ≤ 1) where
    pub few_too : count_by p xs ≤ 1
    few_too = omega (arith, few, sum_by-IsPermutation (λ y. cond (p y) 1 0) xs ys same)

    some_found : (x : X) → find p ys ≡ Some x → find p ys ≡ find p xs
    some_found x e =
        let back = Contains-permutation ys xs x (IsPermutation-sym xs ys same) (found_there ys x e) in
        e ∙ sym (only_found xs x back.0 back.1 back.2 (found_passes ys x e) few_too)

    none_found : find p ys ≡ None → (o : Option X) → find p xs ≡ o → find p ys ≡ find p xs
    none_found e None is = e ∙ sym is
    none_found e (Some x) is =
        let on = Contains-permutation xs ys x same (found_there xs x is) in
        let found : find p ys ≡ Some x = only_found ys x on.0 on.1 on.2 (found_passes xs x is) few in
        absurd cc

    pub same_found : find p ys ≡ find p xs
    same_found = elim (find p ys) as (λ (o : Option X). find p ys ≡ o → find p ys ≡ find p xs) [
      | None ↦ λ e. none_found e (find p xs) refl
      | Some x ↦ λ e. some_found x e
    ] refl
