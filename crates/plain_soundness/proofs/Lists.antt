-- Lists: an element that is replaced, all elements changed, and lists of numbers that rise.
use Rattle.std.proofs.Common.{◌≡◌, ℕ, zero, suc, ◌+◌, ◌<◌, ◌≤◌, Bool, true, cond, not, eqb, ltb, List, [], ◌∷◌, length, map, get_or, set, filter, Some}
use Rattle.std.proofs.Common.{AllPairs, inl, inr, refl, subst, arith}
use Rattle.std.specs.Prelude.{slice_get}
use Rattle.std.specs.List.{AllByRecursion, list_any}
use Rattle.std.specs.List.Sorted.{IsStrictlyIncreasing}
use Rattle.std.proofs.lemmas.Bool.{cond_both, ltb-true, ltb-false, eqb-true, eqb-false, or_cases}
use Rattle.std.proofs.lemmas.Option.{same_Some}
use Rattle.std.proofs.lemmas.List.Elements.{All-from_recursion, recursion_from_All}
use Rattle.std.proofs.lemmas.List.Kept.{AllPairs-cons, AllPairs-from_increasing, IsStrictlyIncreasing-filter}
use Rattle.its_types.specs.Lpis.{with_lpi, with_lpis, without_lpi, is_pending}

-- ---- elements by their place

-- what holds at each place holds after one element was replaced
pub at_each_set : {X : Type 0} (P : ℕ → X → Type 0) (xs : List X) (i : ℕ) (y : X) → (i < length xs → P i y)
    → ((k : ℕ) (x : X) → slice_get xs k ≡ Some x → P k x) → (k : ℕ) (x : X) → slice_get (set xs i y) k ≡ Some x → P k x
at_each_set P [] i y new old k x e = old k x e
at_each_set P (z ∷ zs) zero y new old zero x e = subst (P 0) (same_Some y x e) (new (omega arith))
at_each_set P (z ∷ zs) zero y new old (suc k) x e = old (suc k) x e
at_each_set P (z ∷ zs) (suc i) y new old zero x e = old zero x e
at_each_set P (z ∷ zs) (suc i) y new old (suc k) x e = at_each_set (λ n. P (suc n)) zs i y (λ lt. new (omega (arith, lt))) (λ n. old (suc n)) k x e

-- or after all were changed
pub at_each_map : {X Y : Type 0} (P : ℕ → Y → Type 0) (f : X → Y) (xs : List X) → ((k : ℕ) (x : X) → slice_get xs k ≡ Some x → P k (f x))
    → (k : ℕ) (y : Y) → slice_get (map f xs) k ≡ Some y → P k y
at_each_map P f [] h k y e = absurd cc
at_each_map P f (x ∷ xs) h zero y e = subst (P 0) (same_Some (f x) y e) (h 0 x refl)
at_each_map P f (x ∷ xs) h (suc k) y e = at_each_map (λ n. P (suc n)) f xs (λ n. h (suc n)) k y e

-- what a function says of each element stays, where it says the same of the new one
pub same_after_set : {X Y : Type 0} (f : X → Y) (xs : List X) (i j : ℕ) (x d : X) → f x ≡ f (get_or xs i d) → f (get_or (set xs i x) j d) ≡ f (get_or xs j d)
same_after_set f [] i j x d e = refl
same_after_set f (z ∷ zs) zero zero x d e = e
same_after_set f (z ∷ zs) zero (suc j) x d e = refl
same_after_set f (z ∷ zs) (suc i) zero x d e = refl
same_after_set f (z ∷ zs) (suc i) (suc j) x d e = same_after_set f zs i j x d e

-- ---- what holds of each element

pub all_at : {X : Type 0} (P : X → Type 0) (xs : List X) → AllByRecursion P xs → (k : ℕ) (x : X) → slice_get xs k ≡ Some x → P x
all_at P [] h k x e = absurd cc
all_at P (y ∷ ys) h zero x e = subst P (same_Some y x e) h.0
all_at P (y ∷ ys) h (suc k) x e = all_at P ys h.1 k x e

pub all_weaker : {X : Type 0} (P Q : X → Type 0) → ((x : X) → P x → Q x) → (xs : List X) → AllByRecursion P xs → AllByRecursion Q xs
all_weaker P Q f [] h = tt
all_weaker P Q f (x ∷ xs) h = (f x h.0, all_weaker P Q f xs h.1)

pub all_filter : {X : Type 0} (P : X → Type 0) (p : X → Bool) (xs : List X) → AllByRecursion P xs → AllByRecursion P (filter p xs)
all_filter P p [] h = tt
all_filter P p (x ∷ xs) h = cond_both (p x) (x ∷ filter p xs) (filter p xs) (AllByRecursion P) (λ _. (h.0, all_filter P p xs h.1)) (λ _. all_filter P p xs h.1)

-- ---- numbers that rise

abbrev Rises : List ℕ → Type 0
Rises [] = Unit {0}
Rises (x ∷ xs) = AllByRecursion (λ y. x < y) xs × Rises xs

rises_from_pairs : (xs : List ℕ) → AllPairs (λ x y. x < y) xs → Rises xs
rises_from_pairs [] h = tt
rises_from_pairs (x ∷ xs) h = (
  recursion_from_All (λ y. x < y) xs (λ k d lt. h 0 (suc k) d (omega arith) (omega (arith, lt))),
  rises_from_pairs xs
      (λ i j d lt in_list. h (suc i) (suc j) d (omega (arith, lt)) (omega (arith, in_list))),
)

pairs_from_rises : (xs : List ℕ) → Rises xs → AllPairs (λ x y. x < y) xs
pairs_from_rises [] h = λ i j d lt in_list. absurd (omega (arith, in_list))
pairs_from_rises (x ∷ xs) h = AllPairs-cons (λ a b. a < b) x xs (All-from_recursion (λ y. x < y) xs h.0) (pairs_from_rises xs h.1)

rises : (xs : List ℕ) → IsStrictlyIncreasing xs → Rises xs
rises xs h = rises_from_pairs xs (AllPairs-from_increasing xs h)

increasing : (xs : List ℕ) → Rises xs → IsStrictlyIncreasing xs
increasing xs h = λ k within. pairs_from_rises xs h k (k + 1) 0 (omega arith) within

-- ---- pending sets

-- each of them passes, and they rise
pub record IsSet (P : ℕ → Type 0) (xs : List ℕ) : Type 0 where
  pub rising : IsStrictlyIncreasing xs
  pub all : AllByRecursion P xs

pub no_set : (P : ℕ → Type 0) → IsSet P []
no_set P = record { rising = λ k within. absurd (omega (arith, within)); all = tt }

-- one that is in a set passes
pub set_has : (P : ℕ → Type 0) (x : ℕ) (ys : List ℕ) → AllByRecursion P ys → is_pending x ys ≡ true → P x
set_has P x [] h e = absurd cc
set_has P x (y ∷ ys) h e = elim (or_cases (eqb y x) (list_any (λ z. eqb z x) ys) e) [ inl p ↦ subst P (eqb-true y x p) h.0 | inr p ↦ set_has P x ys h.1 p ]

-- with one number more
all_with_lpi : (P : ℕ → Type 0) (x : ℕ) (ys : List ℕ) → P x → AllByRecursion P ys → AllByRecursion P (with_lpi x ys)
all_with_lpi P x [] p h = (p, tt)
all_with_lpi P x (y ∷ ys) p h =
    cond_both (ltb y x) (y ∷ with_lpi x ys) (cond (eqb y x) (y ∷ ys) (x ∷ y ∷ ys)) (AllByRecursion P)
    (λ _. (h.0, all_with_lpi P x ys p h.1))
    (λ _. cond_both (eqb y x) (y ∷ ys) (x ∷ y ∷ ys) (AllByRecursion P) (λ _. h) (λ _. (p, h)))

rises_with_lpi : (x : ℕ) (ys : List ℕ) → Rises ys → Rises (with_lpi x ys)
rises_with_lpi x [] h = (tt, tt)
rises_with_lpi x (y ∷ ys) h =
    cond_both (ltb y x) (y ∷ with_lpi x ys) (cond (eqb y x) (y ∷ ys) (x ∷ y ∷ ys)) Rises
    (λ below. (all_with_lpi (λ z. y < z) x ys (ltb-true y x below) h.0, rises_with_lpi x ys h.1))
    (λ above. cond_both (eqb y x) (y ∷ ys) (x ∷ y ∷ ys) Rises (λ _. h) (λ other.
    let le : x ≤ y = ltb-false y x above in
    let lt : x < y = omega (arith, le, eqb-false y x other) in
    ((lt, all_weaker (λ z. y < z) (λ z. x < z) (λ z more. omega (arith, lt, more)) ys h.0), h)))

pub set_with : (P : ℕ → Type 0) (x : ℕ) (ys : List ℕ) → P x → IsSet P ys → IsSet P (with_lpi x ys)
set_with P x ys p h = record { rising = increasing (with_lpi x ys) (rises_with_lpi x ys (rises ys h.rising)); all = all_with_lpi P x ys p h.all }

pub set_with_all : (P : ℕ → Type 0) (xs ys : List ℕ) → AllByRecursion P xs → IsSet P ys → IsSet P (with_lpis xs ys)
set_with_all P [] ys p h = h
set_with_all P (x ∷ xs) ys p h = set_with P x (with_lpis xs ys) p.0 (set_with_all P xs ys p.1 h)

-- without one
pub set_without : (P : ℕ → Type 0) (x : ℕ) (ys : List ℕ) → IsSet P ys → IsSet P (without_lpi x ys)
set_without P x ys h = record { rising = IsStrictlyIncreasing-filter (λ y. not (eqb y x)) ys h.rising; all = all_filter P (λ y. not (eqb y x)) ys h.all }
