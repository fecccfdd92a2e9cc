-- A list in rising order of keys that differ is the only one with its elements.
use Rattle.std.proofs.Common.{◌≡◌, ◌⊎◌, ℕ, ◌<◌, ◌≤◌, leb, cond, List, [], ◌∷◌, get_or, refl, ap, sym, inl, inr, ⊎_elim, subst, arith, le-leb}
use Rattle.std.proofs.lemmas.Bool.{lt-leb}
use Rattle.std.proofs.Math.Nat.{lt_of_not-le}
use Rattle.std.specs.List.{All, sum_by}
use Rattle.std.specs.List.Sorted.{IsPermutation, IsNonDecreasingBy}
use Rattle.std.proofs.lemmas.List.Sorted.{All-permutation, sum_by-IsPermutation, IsNonDecreasingBy-drop}
use Rattle.std.proofs.lemmas.List.Elements.{All-nil, All-cons, All-head, All-tail}
use Rattle.std.proofs.lemmas.List.Sums.{sum_by-cons}

abbrev pub Each : {X : Type 0} → (X → Type 0) → List X → Type 0
Each P [] = Unit {0}
Each P (x ∷ xs) = P x × Each P xs

-- 1 where x is at most n
abbrev low : ℕ → ℕ → ℕ
low n x = cond (leb x n) 1 0

low_is : (n x : ℕ) → x ≤ n → low n x ≡ 1
low_is n x le = ap (λ b. cond b 1 0) (le-leb x n le)

low_not : (n x : ℕ) → n < x → low n x ≡ 0
low_not n x lt = ap (λ b. cond b 1 0) (lt-leb x n lt)

abbrev OneOf : {X : Type 0} → X → List X → Type 0
OneOf y [] = ⊥
OneOf y (x ∷ xs) = (x ≡ y) ⊎ OneOf y xs

each_one : {X : Type 0} (xs ys : List X) → ((y : X) → OneOf y ys → OneOf y xs) → All (λ y. OneOf y xs) ys
each_one xs [] f = All-nil (λ y. OneOf y xs)
each_one xs (y ∷ ys) f = All-cons (λ y. OneOf y xs) y ys (f y (inl refl)) (each_one xs ys (λ z t. f z (inr t)))

one_each : {X : Type 0} (P : X → Type 0) (xs : List X) (y : X) → Each P xs → OneOf y xs → P y
one_each P [] y ps t = absurd t
one_each P (x ∷ xs) y ps t = ⊎_elim (λ (e : x ≡ y). subst P e ps.0) (λ (s : OneOf y xs). one_each P xs y ps.1 s) t

module _ {X : Type 0} (key : X → ℕ) where
  abbrev pub Increasing : List X → Type 0
  Increasing [] = Unit {0}
  Increasing (x ∷ xs) = Each (λ y. key x < key y) xs × Increasing xs

  abbrev lows : ℕ → List X → ℕ
  lows n xs = sum_by (λ x. low n (key x)) xs

  lows_each : (n : ℕ) (v : List X) → Each (λ y. n < key y) v → lows n v ≡ 0
  lows_each n [] all = refl
  lows_each n (y ∷ v) all = omega (arith, sum_by-cons (λ (x : X). low n (key x)) y v, low_not n (key y) all.0, lows_each n v all.1)

  lows_none : (n : ℕ) (v : List X) → All (λ y. n < key y) v → lows n v ≡ 0
  lows_none n [] all = refl
  lows_none n (y ∷ v) all = omega (
    arith,
    sum_by-cons (λ (x : X). low n (key x)) y v,
    low_not n (key y) (All-head (λ (y : X). n < key y) y v all),
    lows_none n v
        (All-tail (λ (y : X). n < key y) y v all),
  )

  all_above : (n : ℕ) (v : List X) → lows n v ≡ 0 → All (λ y. n < key y) v
  all_above n [] e = All-nil (λ (y : X). n < key y)
  all_above n (y ∷ v) e = let split = sum_by-cons (λ (x : X). low n (key x)) y v in
      All-cons (λ (y : X). n < key y) y v (lt_of_not-le (λ le. absurd (omega (arith, split, e, low_is n (key y) le)))) (all_above n v (omega (arith, split, e)))

  same_as : (xs v : List X) → Increasing xs → All (λ y. OneOf y xs) v → ((f : ℕ → ℕ) → sum_by (λ (x : X). f (key x)) v ≡ sum_by (λ (x : X). f (key x)) xs)
      → IsNonDecreasingBy key v → v ≡ xs
  same_as [] [] inc all sums up = refl
  same_as [] (y ∷ v) inc all sums up = absurd (omega (arith, sums (λ _. 1), sum_by-cons (λ (x : X). 1) y v))
  same_as (e ∷ xs) [] inc all sums up = absurd (omega (arith, sums (λ _. 1), sum_by-cons (λ (x : X). 1) e xs))
  same_as (e ∷ xs) (y ∷ v) inc all sums up =
      let n : ℕ = key e in
      let P : X → Type 0 = λ z. OneOf z (e ∷ xs) in
      let whole : lows n (e ∷ xs) ≡ 1 = omega (arith, sum_by-cons (λ (x : X). low n (key x)) e xs, low_is n n (omega arith), lows_each n xs inc.0) in
      let later : n < key y → ⊥ = λ lt.
      absurd (omega (arith, whole, sums (low n), lows_none n (y ∷ v) (λ k d below. let z = up 0 k d (omega arith) below in omega (arith, z, lt)))) in
      let here : e ≡ y = ⊎_elim (λ (s : e ≡ y). s) (λ (s : OneOf y xs). absurd (later (one_each (λ y. key e < key y) xs y inc.0 s))) (All-head P y v all) in
      let at : n ≡ key y = ap key here in
      let above : All (λ (z : X). n < key z) v =
      all_above n v (omega (arith, whole, sums (low n), sum_by-cons (λ (x : X). low n (key x)) y v, low_is n (key y) (omega (arith, at)))) in
      let rest : v ≡ xs = same_as xs v inc.1
      (λ k d lt. pick (get_or v k d) (All-tail P y v all k d lt) (above k d lt))
      (λ f. let one : f (key y) ≡ f n = ap f (sym at) in omega (
        arith,
        one,
        sums f,
        sum_by-cons (λ (x : X). f (key x)) y v,
        sum_by-cons
            (λ (x : X). f (key x)) e xs,
      ))
      (IsNonDecreasingBy-drop key 1 (y ∷ v) up) in
      λ d. sym here d ∷ rest d
    where
      pick : (z : X) → OneOf z (e ∷ xs) → key e < key z → OneOf z xs
      pick z t lt = ⊎_elim (λ (s : e ≡ z). let q : key e ≡ key z = ap key s in absurd (omega arith)) (λ (s : OneOf z xs). s) t

  pub sorted_unique : (xs v : List X) → Increasing xs → IsPermutation xs v → IsNonDecreasingBy key v → v ≡ xs
  sorted_unique xs v inc same up =
      same_as xs v inc (All-permutation (λ y. OneOf y xs) xs v same (each_one xs xs (λ y t. t))) (λ f. sum_by-IsPermutation (λ (x : X). f (key x)) xs v same) up
