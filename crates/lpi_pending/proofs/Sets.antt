-- A set as the numbers of a range that pass a test.
use Rattle.std.proofs.Common.{◌≡◌, ◌≢◌, ℕ, suc, zero, ◌+◌, ◌<◌, ◌≤◌, Bool, true, false, cond, List, [], ◌∷◌, length, get_or, Some, None, eqb, refl, sym, ap}
use Rattle.std.proofs.Common.{◌∙◌, inl, inr, arith}
use Rattle.std.specs.Prelude.{◌||◌, ◌&&◌, filter, find}
use Rattle.std.specs.List.{range_with_len}
use Rattle.std.proofs.lemmas.Bool.{cases_eq, cases_lt, cases_Bool, eq-eqb, ne_eqb, lt-ltb, le-ltb, or_left, or_right}
use Rattle.its_types.specs.Lpis.{is_pending, with_lpi, with_lpis}

-- a number is among a and the n - 1 after it
pub record IsWithin (a n x : ℕ) : Type 0 where
  pub from : a ≤ x
  pub below : x < a + n

abbrev pub those : (ℕ → Bool) → ℕ → ℕ → List ℕ
those p a n = filter p (range_with_len a n)

pub within-first : (a n : ℕ) → IsWithin a (suc n) a
within-first a n = record { from = omega arith; below = omega arith }

pub within-next : (a n x : ℕ) → IsWithin (a + 1) n x → IsWithin a (suc n) x
within-next a n x w = record { from = omega (arith, w.from); below = omega (arith, w.below) }

pub within-later : (a n x : ℕ) → IsWithin a (suc n) x → x ≢ a → IsWithin (a + 1) n x
within-later a n x w ne = record { from = omega (arith, w.from); below = omega (arith, w.below) }

-- two tests that agree on the range
pub same_those : (p q : ℕ → Bool) (a n : ℕ) → ((x : ℕ) → IsWithin a n x → p x ≡ q x) → those p a n ≡ those q a n
same_those p q a zero same = refl
same_those p q a (suc n) same =
    rw (same a (within-first a n), same_those p q (a + 1) n (λ x w. same x (within-next a n x w))) refl

-- a set within a set
pub those-filter : (q p : ℕ → Bool) (a n : ℕ) → filter q (those p a n) ≡ those (λ x. p x && q x) a n
those-filter q p a zero = refl
those-filter q p a (suc n) =
    elim (p a) as (λ b. filter q (cond b (a ∷ those p (a + 1) n) (those p (a + 1) n)) ≡ cond (b && q a) (a ∷ those (λ x. p x && q x) (a + 1) n)
    (those (λ x. p x && q x) (a + 1) n)) [
      | true ↦ rw (those-filter q p (a + 1) n) refl
      | false ↦ those-filter q p (a + 1) n
    ]

-- membership
pub is_pending-those_below : (p : ℕ → Bool) (a n x : ℕ) → x < a → is_pending x (those p a n) ≡ false
is_pending-those_below p a zero x lt = refl
is_pending-those_below p a (suc n) x lt =
    let ne : (a ≡ x → ⊥) = λ e. omega arith in
    elim (p a) as (λ b. is_pending x (cond b (a ∷ those p (a + 1) n) (those p (a + 1) n)) ≡ false) [
      | true ↦ rw (ne_eqb a x ne) (is_pending-those_below p (a + 1) n x (omega arith))
      | false ↦ is_pending-those_below p (a + 1) n x (omega arith)
    ]

pub is_pending-those : (p : ℕ → Bool) (a n x : ℕ) → IsWithin a n x → is_pending x (those p a n) ≡ p x
is_pending-those p a zero x w = absurd (omega (arith, w.from, w.below))
is_pending-those p a (suc n) x w =
    elim (cases_eq x a) [
      | inl e ↦
          elim (cases_Bool (p a)) [
            | inl t ↦ rw (e, t, eq-eqb a a refl) refl
            | inr f ↦ rw (e, f) (is_pending-those_below p (a + 1) n a (omega arith))
          ]
      | inr ne ↦
          let rest = is_pending-those p (a + 1) n x (within-later a n x w ne) in
          let other : (a ≡ x → ⊥) = λ e. ne (sym e) in
          elim (p a) as (λ b. is_pending x (cond b (a ∷ those p (a + 1) n) (those p (a + 1) n)) ≡ p x) [
            | true ↦ rw (ne_eqb a x other) rest
            | false ↦ rest
          ]
    ]

later_is : (p : ℕ → Bool) (a n x : ℕ) → x ≢ a → is_pending x (those p a (suc n)) ≡ true → is_pending x (those p (a + 1) n) ≡ true
later_is p a n x ne is =
    let other : (a ≡ x → ⊥) = λ e. ne (sym e) in
    elim (cases_Bool (p a)) [
      | inl t ↦ rw (t, ne_eqb a x other) at is
      | inr f ↦ rw f at is
    ]

below_is : (p : ℕ → Bool) (a n x : ℕ) → a ≤ x → is_pending x (those p a n) ≡ true → x < a + n
below_is p a zero x from is = absurd cc
below_is p a (suc n) x from is =
    elim (cases_eq x a) [
      | inl e ↦ omega arith
      | inr ne ↦ let rest = below_is p (a + 1) n x (omega (arith, ne)) (later_is p a n x ne is) in omega (arith, rest)
    ]

pub within-those : (p : ℕ → Bool) (a n x : ℕ) → is_pending x (those p a n) ≡ true → IsWithin a n x
within-those p a n x is =
    elim (cases_lt x a) [
      | inl lt ↦ absurd (let none : false ≡ true = sym (is_pending-those_below p a n x lt) ∙ is in cc)
      | inr from ↦ record { from = from; below = below_is p a n x from is }
    ]

-- ---- each element of a set, and their order

cons_within : (a n : ℕ) (xs : List ℕ) → ((j : ℕ) → j < length xs → IsWithin (a + 1) n (get_or xs j 0)) → (k : ℕ) → k < length (a ∷ xs)
    → IsWithin a (suc n) (get_or (a ∷ xs) k 0)
cons_within a n xs each zero lt = within-first a n
cons_within a n xs each (suc k) lt = within-next a n (get_or xs k 0) (each k (omega arith))

pub get_or-those : (p : ℕ → Bool) (a n k : ℕ) → k < length (those p a n) → IsWithin a n (get_or (those p a n) k 0)
get_or-those p a zero k lt = absurd (omega arith)
get_or-those p a (suc n) k lt =
    let rest = λ (j : ℕ) (below : j < length (those p (a + 1) n)). get_or-those p (a + 1) n j below in
    elim (cases_Bool (p a)) [
      | inl t ↦ rw t (cons_within a n (those p (a + 1) n) rest k (rw t at lt))
      | inr f ↦ rw f (within-next a n (get_or (those p (a + 1) n) k 0) (rest k (rw f at lt)))
    ]

cons_rises :
    (a : ℕ) (xs : List ℕ) → ((j : ℕ) → j < length xs → a < get_or xs j 0) → ((j : ℕ) → j + 1 < length xs → get_or xs j 0 < get_or xs (j + 1) 0)
    → (k : ℕ) → k + 1 < length (a ∷ xs) → get_or (a ∷ xs) k 0 < get_or (a ∷ xs) (k + 1) 0
cons_rises a xs above rises zero lt = let next : 0 + 1 ≡ suc 0 = omega arith in above 0 (omega arith)
cons_rises a xs above rises (suc k) lt = let next : suc k + 1 ≡ suc (k + 1) = omega arith in rw next (rises k (omega arith))

pub rising-those : (p : ℕ → Bool) (a n k : ℕ) → k + 1 < length (those p a n) → get_or (those p a n) k 0 < get_or (those p a n) (k + 1) 0
rising-those p a zero k lt = absurd (omega arith)
rising-those p a (suc n) k lt =
    let rest = λ (j : ℕ) (below : j + 1 < length (those p (a + 1) n)). rising-those p (a + 1) n j below in
    let above = λ (j : ℕ) (below : j < length (those p (a + 1) n)). let w = get_or-those p (a + 1) n j below in let gt : a < get_or (those p (a + 1) n) j 0 =
    omega (arith, w.from) in gt in
    elim (cases_Bool (p a)) [
      | inl t ↦ rw t (cons_rises a (those p (a + 1) n) above rest k (rw t at lt))
      | inr f ↦ rw f (rest k (rw f at lt))
    ]

or_assoc : (x y z : Bool) → (x || (y || z)) ≡ ((x || y) || z)
or_assoc true y z = refl
or_assoc false y z = refl

-- one more
with_lpi-below : (p : ℕ → Bool) (a n x : ℕ) → x < a → with_lpi x (those p a n) ≡ x ∷ those p a n
with_lpi-below p a zero x lt = refl
with_lpi-below p a (suc n) x lt =
    let ne : (a ≡ x → ⊥) = λ e. omega arith in
    elim (p a) as (λ b. with_lpi x (cond b (a ∷ those p (a + 1) n) (those p (a + 1) n)) ≡ x ∷ cond b (a ∷ those p (a + 1) n) (those p (a + 1) n)) [
      | true ↦ rw (le-ltb a x (omega arith), ne_eqb a x ne) refl
      | false ↦ with_lpi-below p (a + 1) n x (omega arith)
    ]

pub with_lpi-those : (p : ℕ → Bool) (a n x : ℕ) → IsWithin a n x → with_lpi x (those p a n) ≡ those (λ y. eqb x y || p y) a n
with_lpi-those p a zero x w = absurd (omega (arith, w.from, w.below))
with_lpi-those p a (suc n) x w =
    elim (cases_eq x a) [
      | inl e ↦
          let rest : those (λ y. eqb x y || p y) (a + 1) n ≡ those p (a + 1) n =
          same_those (λ y. eqb x y || p y) p (a + 1) n (λ y v. let ne : (x ≡ y → ⊥) = λ same. omega (arith, v.from) in rw (ne_eqb x y ne) refl)
          in
          rw (eq-eqb x a e, rest)
          (elim (cases_Bool (p a)) [
            | inl t ↦ rw (t, le-ltb a x (omega arith), eq-eqb a x (sym e)) refl
            | inr f ↦ rw f (with_lpi-below p (a + 1) n x (omega arith) ∙ ap (λ y. y ∷ those p (a + 1) n) e)
          ])
      | inr ne ↦
          let rest = with_lpi-those p (a + 1) n x (within-later a n x w ne) in
          let lt : a < x = omega (arith, w.from) in
          rw (ne_eqb x a ne)
          (elim (p a) as (λ b. with_lpi x (cond b (a ∷ those p (a + 1) n) (those p (a + 1) n)) ≡ cond b (a ∷ those (λ y. eqb x y || p y) (a + 1) n)
          (those (λ y. eqb x y || p y) (a + 1) n)) [
            | true ↦ rw (lt-ltb a x lt, rest) refl
            | false ↦ rest
          ])
    ]

-- some more
pub with_lpis-those :
    (xs : List ℕ) (p : ℕ → Bool) (a n : ℕ) → ((x : ℕ) → is_pending x xs ≡ true → IsWithin a n x)
    → with_lpis xs (those p a n) ≡ those (λ y. is_pending y xs || p y) a n
with_lpis-those [] p a n within = refl
with_lpis-those (x ∷ xs) p a n within =
    let first : IsWithin a n x = within x (or_left (eqb x x) (is_pending x xs) (eq-eqb x x refl)) in
    let rest = with_lpis-those xs p a n (λ y h. within y (or_right (eqb x y) (is_pending y xs) h)) in
    rw rest
    (with_lpi-those (λ y. is_pending y xs || p y) a n x first
    ∙ same_those (λ y. eqb x y || (is_pending y xs || p y)) (λ y. is_pending y (x ∷ xs) || p y) a n (λ y w. or_assoc (eqb x y) (is_pending y xs) (p y)))

-- the least that passes a second test
pub find-range_first :
    (q : ℕ → Bool) (a n x : ℕ) → IsWithin a n x → q x ≡ true → ((y : ℕ) → a ≤ y → y < x → q y ≡ false)
    → find q (range_with_len a n) ≡ Some x
find-range_first q a zero x w met before = absurd (omega (arith, w.from, w.below))
find-range_first q a (suc n) x w met before =
    elim (cases_eq x a) [
      | inl e ↦ rw (sym e, met) refl
      | inr ne ↦
          let lt : a < x = omega (arith, w.from) in
          rw (before a (omega arith) lt) (find-range_first q (a + 1) n x (within-later a n x w ne) met (λ y le below. before y (omega arith) below))
    ]

pub find-range_none : (q : ℕ → Bool) (a n : ℕ) → ((y : ℕ) → IsWithin a n y → q y ≡ false) → find q (range_with_len a n) ≡ None
find-range_none q a zero unmet = refl
find-range_none q a (suc n) unmet = rw (unmet a (within-first a n)) (find-range_none q (a + 1) n (λ y w. unmet y (within-next a n y w)))

pub find-those : (q p : ℕ → Bool) (a n : ℕ) → find q (those p a n) ≡ find (λ x. p x && q x) (range_with_len a n)
find-those q p a zero = refl
find-those q p a (suc n) =
    elim (p a) as (λ b. find q (cond b (a ∷ those p (a + 1) n) (those p (a + 1) n)) ≡ cond (b && q a) (Some a)
    (find (λ x. p x && q x) (range_with_len (a + 1) n))) [
      | true ↦ rw (find-those q p (a + 1) n) refl
      | false ↦ find-those q p (a + 1) n
    ]
