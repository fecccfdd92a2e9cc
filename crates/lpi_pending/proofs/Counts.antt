-- How many numbers of a range pass a test.
use Rattle.std.proofs.Common.{◌≡◌, ◌≢◌, ℕ, suc, zero, ◌+◌, ◌<◌, ◌≤◌, Bool, true, false, cond, refl, sym, ap, ◌∙◌, inl, inr, arith}
use Rattle.std.specs.List.{range_with_len}
use Rattle.std.proofs.lemmas.Bool.{cases_eq, cases_Bool}
use Rattle.std.proofs.lemmas.List.Sums.{sum_by-cons}
use Rattle.lpi_pending.specs.Searches.{count_in}
use Rattle.lpi_pending.proofs.Sets.{IsWithin, within-first, within-next, within-later}

count_in-suc : (p : ℕ → Bool) (a n : ℕ) → count_in p a (suc n) ≡ cond {A = ℕ} (p a) 1 0 + count_in p (a + 1) n
unfolding count_in
count_in-suc p a n = sum_by-cons (λ x. cond (p x) 1 0) a (range_with_len (a + 1) n)

pub count_in-same : (p q : ℕ → Bool) (a n : ℕ) → ((x : ℕ) → IsWithin a n x → p x ≡ q x) → count_in p a n ≡ count_in q a n
unfolding count_in
count_in-same p q a zero same = refl
count_in-same p q a (suc n) same =
    let rest = count_in-same p q (a + 1) n (λ x w. same x (within-next a n x w)) in
    let here : cond {A = ℕ} (p a) 1 0 ≡ cond {A = ℕ} (q a) 1 0 = ap (λ b. cond b 1 0) (same a (within-first a n)) in
    omega (arith, count_in-suc p a n, count_in-suc q a n)

pub count_in-le : (p q : ℕ → Bool) (a n : ℕ) → ((x : ℕ) → IsWithin a n x → p x ≡ true → q x ≡ true) → count_in p a n ≤ count_in q a n
unfolding count_in
count_in-le p q a zero implied = omega arith
count_in-le p q a (suc n) implied =
    let rest = count_in-le p q (a + 1) n (λ x w. implied x (within-next a n x w)) in
    let here : cond {A = ℕ} (p a) 1 0 ≤ cond {A = ℕ} (q a) 1 0 =
    elim (cases_Bool (p a)) [
      | inl t ↦ rw (t, implied a (within-first a n) t) (omega arith)
      | inr f ↦ rw f (omega arith)
    ]
    in
    omega (arith, count_in-suc p a n, count_in-suc q a n)

-- one of them no longer passes
pub count_in-less :
    (p q : ℕ → Bool) (a n x : ℕ) → IsWithin a n x → p x ≡ true → q x ≡ false → ((y : ℕ) → IsWithin a n y → y ≢ x → q y ≡ p y)
    → count_in q a n + 1 ≡ count_in p a n
unfolding count_in
count_in-less p q a zero x w met unmet others = absurd (omega (arith, w.from, w.below))
count_in-less p q a (suc n) x w met unmet others =
    elim (cases_eq x a) [
      | inl e ↦
          let rest = count_in-same q p (a + 1) n (λ y v. let ne : y ≢ x = λ same. omega (arith, v.from) in others y (within-next a n y v) ne) in
          let yes_here : cond {A = ℕ} (p a) 1 0 ≡ 1 = rw (← e, met) refl in
          let not_here : cond {A = ℕ} (q a) 1 0 ≡ 0 = rw (← e, unmet) refl in
          omega (arith, count_in-suc p a n, count_in-suc q a n)
      | inr ne ↦
          let rest = count_in-less p q (a + 1) n x (within-later a n x w ne) met unmet (λ y v. others y (within-next a n y v)) in
          let other : a ≢ x = λ e. ne (sym e) in
          let here : cond {A = ℕ} (q a) 1 0 ≡ cond {A = ℕ} (p a) 1 0 = ap (λ b. cond b 1 0) (others a (within-first a n) other) in
          omega (arith, count_in-suc p a n, count_in-suc q a n)
    ]

pub count_in-add : (p : ℕ → Bool) (a n m : ℕ) → count_in p a (n + m) ≡ count_in p a n + count_in p (a + n) m
unfolding count_in
count_in-add p a zero m =
    let same : a + 0 ≡ a = omega arith in
    let none : 0 + m ≡ m = omega arith in
    rw (same, none) (sym (zero_plus (count_in p a m)))
  where
    zero_plus : (k : ℕ) → 0 + k ≡ k
    zero_plus k = omega arith
count_in-add p a (suc n) m =
    let same : suc n + m ≡ suc (n + m) = omega arith in
    let rest = count_in-add p (a + 1) n m in
    let place : (a + 1) + n ≡ a + suc n = omega arith in
    let rest' : count_in p (a + 1) (n + m) ≡ count_in p (a + 1) n + count_in p (a + suc n) m = rest ∙ ap (λ k. count_in p (a + 1) n + count_in p k m) place in
    rw same (omega (arith, count_in-suc p a (n + m), count_in-suc p a n))

pub count_in-shift : (p : ℕ → Bool) (c a n : ℕ) → count_in (λ i. p (c + i)) a n ≡ count_in p (c + a) n
unfolding count_in
count_in-shift p c a zero = refl
count_in-shift p c a (suc n) =
    let rest = count_in-shift p c (a + 1) n in
    let place : c + (a + 1) ≡ (c + a) + 1 = omega arith in
    let rest' : count_in (λ i. p (c + i)) (a + 1) n ≡ count_in p ((c + a) + 1) n = rest ∙ ap (λ k. count_in p k n) place in
    omega (arith, count_in-suc (λ i. p (c + i)) a n, count_in-suc p (c + a) n)

pub count_in-none : (p : ℕ → Bool) (a n : ℕ) → ((x : ℕ) → IsWithin a n x → p x ≡ false) → count_in p a n ≡ 0
unfolding count_in
count_in-none p a zero unmet = refl
count_in-none p a (suc n) unmet =
    let rest = count_in-none p (a + 1) n (λ x w. unmet x (within-next a n x w)) in
    let here : cond {A = ℕ} (p a) 1 0 ≡ 0 = ap (λ b. cond b 1 0) (unmet a (within-first a n)) in
    omega (arith, count_in-suc p a n)

-- where some are left, one passes
pub count_in-some : (p : ℕ → Bool) (a n x : ℕ) → IsWithin a n x → p x ≡ true → 0 < count_in p a n
unfolding count_in
count_in-some p a zero x w met = absurd (omega (arith, w.from, w.below))
count_in-some p a (suc n) x w met =
    elim (cases_eq x a) [
      | inl e ↦
          let yes_here : cond {A = ℕ} (p a) 1 0 ≡ 1 = rw (← e, met) refl in
          omega (arith, count_in-suc p a n)
      | inr ne ↦
          let rest = count_in-some p (a + 1) n x (within-later a n x w ne) met in
          omega (arith, count_in-suc p a n)
    ]
