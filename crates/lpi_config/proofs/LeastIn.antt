-- The least of a function's values at a range of numbers.
use Rattle.std.proofs.Common.{◌≡◌, ◌≢◌, ℕ, suc, zero, ◌+◌, ◌*◌, ◌%◌, ◌<◌, ◌≤◌, min, bit_and, eqb, refl, sym, ap, ◌∙◌, inl, inr, arith}
use Rattle.std.proofs.lemmas.Bool.{cases_eq, cond-true, cond-false, eq-eqb, ne_eqb}
use Rattle.std.proofs.lemmas.Nat.{and_mask}
use Rattle.lpi_config.specs.Bounds.{least_in, rank}

least_zero : (f : ℕ → ℕ) (a : ℕ) → least_in f a 0 ≡ 255
unfolding least_in
least_zero f a = refl

least_suc : (f : ℕ → ℕ) (a n : ℕ) → least_in f a (suc n) ≡ min (least_in f a n) (f (a + n))
unfolding least_in
least_suc f a n = refl

pub least_more : (f : ℕ → ℕ) (a n : ℕ) → least_in f a (n + 1) ≡ min (least_in f a n) (f (a + n))
least_more f a n = let next : n + 1 ≡ suc n = omega arith in ap (least_in f a) next ∙ least_suc f a n

pub least_nowhere : (f : ℕ → ℕ) (a : ℕ) → 255 ≡ least_in f a 0
least_nowhere f a = sym (least_zero f a)

pub least_same : (f g : ℕ → ℕ) (a n : ℕ) → ((k : ℕ) → a ≤ k → k < a + n → f k ≡ g k) → least_in f a n ≡ least_in g a n
least_same f g a zero same = least_zero f a ∙ sym (least_zero g a)
least_same f g a (suc n) same =
    let rest = least_same f g a n (λ k from below. same k from (omega (arith, below))) in
    let here : f (a + n) ≡ g (a + n) = same (a + n) (omega arith) (omega arith) in
    omega (arith, rest, here, least_suc f a n, least_suc g a n)

pub least_most : (f : ℕ → ℕ) (a n : ℕ) → least_in f a n ≤ 255
least_most f a zero = omega (arith, least_zero f a)
least_most f a (suc n) = omega (arith, least_suc f a n, least_most f a n)

pub least_none : (f : ℕ → ℕ) (a n : ℕ) → ((k : ℕ) → a ≤ k → k < a + n → f k ≡ 255) → least_in f a n ≡ 255
least_none f a zero none = least_zero f a
least_none f a (suc n) none =
    let rest = least_none f a n (λ k from below. none k from (omega (arith, below))) in
    let here : f (a + n) ≡ 255 = none (a + n) (omega arith) (omega arith) in
    omega (arith, rest, here, least_suc f a n)

-- none is below it
pub least_below : (f : ℕ → ℕ) (a n k : ℕ) → a ≤ k → k < a + n → least_in f a n ≤ f k
least_below f a zero k from below = absurd (omega (arith, from, below))
least_below f a (suc n) k from below =
    elim (cases_eq k (a + n)) [
      | inl e ↦ let here : f k ≡ f (a + n) = ap f e in omega (arith, here, least_suc f a n)
      | inr ne ↦ let rest = least_below f a n k from (omega (arith, below, ne)) in omega (arith, rest, least_suc f a n)
    ]

pub least_shift : (f : ℕ → ℕ) (c a n : ℕ) → least_in (λ k. f (c + k)) a n ≡ least_in f (c + a) n
least_shift f c a zero = least_zero (λ k. f (c + k)) a ∙ sym (least_zero f (c + a))
least_shift f c a (suc n) =
    let rest = least_shift f c a n in
    let place : c + (a + n) ≡ c + a + n = omega arith in
    let here : f (c + (a + n)) ≡ f (c + a + n) = ap f place in
    omega (arith, rest, here, least_suc (λ k. f (c + k)) a n, least_suc f (c + a) n)

least_add : (f : ℕ → ℕ) (a n m : ℕ) → least_in f a (n + m) ≡ min (least_in f a n) (least_in f (a + n) m)
least_add f a n zero =
    let same : n + 0 ≡ n = omega arith in
    let all : least_in f a (n + 0) ≡ least_in f a n = ap (least_in f a) same in
    omega (arith, all, least_most f a n, least_zero f (a + n))
least_add f a n (suc m) =
    let next : n + suc m ≡ suc (n + m) = omega arith in
    let all : least_in f a (n + suc m) ≡ least_in f a (suc (n + m)) = ap (least_in f a) next in
    let place : a + (n + m) ≡ a + n + m = omega arith in
    let here : f (a + (n + m)) ≡ f (a + n + m) = ap f place in
    omega (arith, all, here, least_add f a n m, least_suc f a (n + m), least_suc f (a + n) m)

-- the least of those of pieces of 64
pub least_pieces : (f : ℕ → ℕ) (a n : ℕ) → least_in (λ j. least_in f (64 * j) 64) a n ≡ least_in f (64 * a) (64 * n)
least_pieces f a zero =
    let none : 0 ≡ 64 * 0 = omega arith in
    least_zero (λ j. least_in f (64 * j) 64) a ∙ sym (least_zero f (64 * a)) ∙ ap (least_in f (64 * a)) none
least_pieces f a (suc n) =
    let size : 64 * suc n ≡ 64 * n + 64 = omega arith in
    let all : least_in f (64 * a) (64 * suc n) ≡ least_in f (64 * a) (64 * n + 64) = ap (least_in f (64 * a)) size in
    let place : 64 * (a + n) ≡ 64 * a + 64 * n = omega arith in
    let here : least_in f (64 * (a + n)) 64 ≡ least_in f (64 * a + 64 * n) 64 = ap (λ p. least_in f p 64) place in
    omega (arith, all, here, least_pieces f a n, least_add f (64 * a) (64 * n) 64, least_suc (λ j. least_in f (64 * j) 64) a n)

-- ---- by an LPI's byte

pub rank_on : (byte : ℕ) → bit_and byte 1 ≡ 1 → rank byte ≡ bit_and byte 252
rank_on byte e =
    let odd : byte % 2 ≡ 1 = sym (and_mask byte 1) ∙ e in
    cond-true (eqb (byte % 2) 1) (bit_and byte 252) 255 (eq-eqb (byte % 2) 1 odd)

pub rank_off : (byte : ℕ) → bit_and byte 1 ≢ 1 → rank byte ≡ 255
rank_off byte ne =
    cond-false (eqb (byte % 2) 1) (bit_and byte 252) 255 (ne_eqb (byte % 2) 1 (λ e. ne (and_mask byte 1 ∙ e)))

-- one byte more
pub least_with : (f : ℕ → ℕ) (n least next : ℕ) → least ≡ least_in f 0 n → next ≡ min least (f n) → next ≡ least_in f 0 (n + 1)
least_with f n least next is e =
    let place : 0 + n ≡ n = omega arith in
    let here : f (0 + n) ≡ f n = ap f place in
    omega (arith, least_more f 0 n, here, is, e)
