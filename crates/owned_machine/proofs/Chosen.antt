-- Lists of numbers, of which some are chosen.
use Rattle.std.proofs.Common.{◌≡◌, ℕ, suc, ◌<◌, Bool, true, false, cond, eqb, List, [], ◌∷◌, AllPairs, refl, sym, inl, inr, arith}
use Rattle.std.specs.Prelude.{◌||◌, filter}
use Rattle.std.specs.List.{AllByRecursion, list_any}
use Rattle.std.specs.List.Sorted.{IsStrictlyIncreasing}
use Rattle.std.proofs.lemmas.Bool.{cases_eq, cases_Bool, eq-eqb, ne_eqb, lt-ltb, le-ltb}
use Rattle.std.proofs.lemmas.List.Elements.{recursion_from_All}
use Rattle.std.proofs.lemmas.List.Kept.{AllPairs-from_increasing}
use Rattle.its_types.specs.Lpis.{is_pending, with_lpi}

-- tests that agree choose the same
pub filter_alike : {X : Type 0} (p q : X → Bool) → ((x : X) → p x ≡ q x) → (xs : List X) → filter p xs ≡ filter q xs
filter_alike p q same [] = refl
filter_alike p q same (x ∷ xs) = rw (same x, filter_alike p q same xs) refl

pub filter_none : {X : Type 0} (xs : List X) → filter (λ x. false) xs ≡ []
filter_none [] = refl
filter_none (x ∷ xs) = filter_none xs

pub any_alike : {X : Type 0} (p q : X → Bool) → ((x : X) → p x ≡ q x) → (xs : List X) → list_any p xs ≡ list_any q xs
any_alike p q same [] = refl
any_alike p q same (x ∷ xs) = rw (same x, any_alike p q same xs) refl

-- ---- with one number more

abbrev Above : ℕ → List ℕ → Type 0
Above x xs = AllByRecursion (λ y. x < y) xs

abbrev Rises : List ℕ → Type 0
Rises [] = Unit {0}
Rises (x ∷ xs) = Above x xs × Rises xs

rises_from_pairs : (xs : List ℕ) → AllPairs (λ x y. x < y) xs → Rises xs
rises_from_pairs [] h = tt
rises_from_pairs (x ∷ xs) h = (
  recursion_from_All (λ y. x < y) xs (λ k d lt. h 0 (suc k) d (omega arith) (omega (arith, lt))),
  rises_from_pairs xs (λ i j d lt in_list. h (suc i) (suc j) d (omega (arith, lt)) (omega (arith, in_list))),
)

-- where it isn't in the list, nothing is chosen more
pub chosen_else : (p : ℕ → Bool) (x : ℕ) (xs : List ℕ) → is_pending x xs ≡ false → filter (λ y. p y || eqb x y) xs ≡ filter p xs
chosen_else p x [] none = refl
chosen_else p x (y ∷ ys) none =
    elim (cases_eq y x) [
      | inl same ↦ absurd (let clash = rw (eq-eqb y x same) at none in cc)
      | inr apart ↦
          let rest : is_pending x ys ≡ false = rw (ne_eqb y x apart) at none in
          let other : (x ≡ y → ⊥) = λ e. apart (sym e) in
          elim (cases_Bool (p y)) [
            | inl t ↦ rw (t, chosen_else p x ys rest) refl
            | inr f ↦ rw (f, ne_eqb x y other) (chosen_else p x ys rest)
          ]
    ]

above_lacks : (x : ℕ) (xs : List ℕ) → Above x xs → is_pending x xs ≡ false
above_lacks x [] h = refl
above_lacks x (y ∷ ys) h =
    let apart : (y ≡ x → ⊥) = λ e. omega (arith, e, h.0) in
    rw (ne_eqb y x apart) (above_lacks x ys h.1)

above_chosen : (p : ℕ → Bool) (x : ℕ) (xs : List ℕ) → Above x xs → Above x (filter p xs)
above_chosen p x [] h = tt
above_chosen p x (y ∷ ys) h =
    elim (p y) as (λ b. Above x (cond b (y ∷ filter p ys) (filter p ys))) [ true ↦ (h.0, above_chosen p x ys h.1) | false ↦ above_chosen p x ys h.1 ]

first_with : (x : ℕ) (xs : List ℕ) → Above x xs → with_lpi x xs ≡ x ∷ xs
first_with x [] h = refl
first_with x (y ∷ ys) h =
    let apart : (y ≡ x → ⊥) = λ e. omega (arith, e, h.0) in
    rw (le-ltb y x (omega (arith, h.0)), ne_eqb y x apart) refl

here : (p : ℕ → Bool) (x : ℕ) (xs : List ℕ) → Above x xs → with_lpi x (filter p (x ∷ xs)) ≡ filter (λ y. p y || eqb x y) (x ∷ xs)
here p x xs h =
    let rest : filter (λ y. p y || eqb x y) xs ≡ filter p xs = chosen_else p x xs (above_lacks x xs h) in
    let self : eqb x x ≡ true = eq-eqb x x refl in
    elim (cases_Bool (p x)) [
      | inl t ↦ rw (t, rest, le-ltb x x (omega arith), self) refl
      | inr f ↦ rw (f, rest, self) (first_with x (filter p xs) (above_chosen p x xs h))
    ]

more_chosen : (p : ℕ → Bool) (x : ℕ) (xs : List ℕ) → Rises xs → is_pending x xs ≡ true → with_lpi x (filter p xs) ≡ filter (λ y. p y || eqb x y) xs
more_chosen p x [] r is = absurd cc
more_chosen p x (y ∷ ys) r is =
    elim (cases_eq y x) [
      | inl same ↦ rw same (here p x ys (rw same at r.0))
      | inr apart ↦
          let rest : is_pending x ys ≡ true = rw (ne_eqb y x apart) at is in
          let other : (x ≡ y → ⊥) = λ e. apart (sym e) in
          let lt : y < x = above_has y x ys r.0 rest in
          elim (cases_Bool (p y)) [
            | inl t ↦ rw (t, lt-ltb y x lt, more_chosen p x ys r.1 rest) refl
            | inr f ↦ rw (f, ne_eqb x y other) (more_chosen p x ys r.1 rest)
          ]
    ]
  where
    above_has : (a x : ℕ) (xs : List ℕ) → Above a xs → is_pending x xs ≡ true → a < x
    above_has a x [] h is = absurd cc
    above_has a x (z ∷ zs) h is =
        elim (cases_eq z x) [
          | inl same ↦ omega (arith, same, h.0)
          | inr apart ↦ above_has a x zs h.1 (rw (ne_eqb z x apart) at is)
        ]

-- a number of a list that rises: it is put in the place where it stands there
pub with_chosen : (p : ℕ → Bool) (x : ℕ) (xs : List ℕ) → IsStrictlyIncreasing xs → is_pending x xs ≡ true
    → with_lpi x (filter p xs) ≡ filter (λ y. p y || eqb x y) xs
with_chosen p x xs rising is = more_chosen p x xs (rises_from_pairs xs (AllPairs-from_increasing xs rising)) is
