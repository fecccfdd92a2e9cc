-- Bits of words: of a zero word, of two words together, of a word that isn't zero.
use Rattle.std.proofs.Common.{◌≡◌, ◌≢◌, ◌⊎◌, ℕ, ◌<◌, true, false, min, max, bit_and, bit_or, eqb, refl, sym, ap, ◌∙◌, inl, inr, arith}
use Rattle.std.specs.Prelude.{◌||◌, ◌&&◌}
use Rattle.std.specs.Int.{bit_at}
use Rattle.std.proofs.lemmas.Bool.{cases_eq, ne_eqb, eqb-true, not-false, both_ways}
use Rattle.std.proofs.lemmas.Nat.Bits.{bit_at_and, bit_at_or, bit_at-zero, bit_at-lt, same_from_bits}
use Rattle.its_types.specs.Bits.{bit_of}
use Rattle.lpi_pending.specs.Summaries.{is_nonzero}

-- a bit is 0 or 1
two_bits : (a : ℕ) → a < 2 → (a ≡ 0) ⊎ (a ≡ 1)
two_bits a lt = elim (cases_eq a 0) [ inl e ↦ inl e | inr ne ↦ inr (omega (arith, ne)) ]

eqb-min : (a b : ℕ) → a < 2 → b < 2 → eqb (min a b) 1 ≡ (eqb a 1 && eqb b 1)
eqb-min a b lt lt' =
    elim (two_bits a lt) [
      | inl e ↦ elim (two_bits b lt') [ inl e' ↦ rw (e, e') refl | inr e' ↦ rw (e, e') refl ]
      | inr e ↦ elim (two_bits b lt') [ inl e' ↦ rw (e, e') refl | inr e' ↦ rw (e, e') refl ]
    ]

eqb-max : (a b : ℕ) → a < 2 → b < 2 → eqb (max a b) 1 ≡ (eqb a 1 || eqb b 1)
eqb-max a b lt lt' =
    elim (two_bits a lt) [
      | inl e ↦ elim (two_bits b lt') [ inl e' ↦ rw (e, e') refl | inr e' ↦ rw (e, e') refl ]
      | inr e ↦ elim (two_bits b lt') [ inl e' ↦ rw (e, e') refl | inr e' ↦ rw (e, e') refl ]
    ]

pub bit_of-and : (a b i : ℕ) → bit_of (bit_and a b) i ≡ (bit_of a i && bit_of b i)
bit_of-and a b i = ap (λ n. eqb n 1) (bit_at_and a b i) ∙ eqb-min (bit_at a i) (bit_at b i) (bit_at-lt a i) (bit_at-lt b i)

pub bit_of-or : (a b i : ℕ) → bit_of (bit_or a b) i ≡ (bit_of a i || bit_of b i)
bit_of-or a b i = ap (λ n. eqb n 1) (bit_at_or a b i) ∙ eqb-max (bit_at a i) (bit_at b i) (bit_at-lt a i) (bit_at-lt b i)

pub is_nonzero-true : (word : ℕ) → is_nonzero word ≡ true → word ≢ 0
is_nonzero-true word e zero_is = both_ways (is_nonzero word) (rw zero_is refl) e

pub is_nonzero-false : (word : ℕ) → is_nonzero word ≡ false → word ≡ 0
is_nonzero-false word e = eqb-true word 0 (not-false (eqb word 0) e)

pub nonzero_is : (word : ℕ) → word ≢ 0 → is_nonzero word ≡ true
nonzero_is word ne = rw (ne_eqb word 0 ne) refl

-- one of two words isn't zero
pub is_nonzero-or : (a b : ℕ) → is_nonzero (bit_or a b) ≡ (is_nonzero a || is_nonzero b)
is_nonzero-or a b =
    elim (cases_eq a 0) [
      | inl e ↦
          let same : bit_or 0 b ≡ b = same_from_bits (bit_or 0 b) b (λ i. bit_at_or 0 b i ∙ zero_max (bit_at b i) (bit_at 0 i) (bit_at-zero i)) in
          rw (e, same) refl
      | inr ne ↦
          let ne_or : bit_or a b ≢ 0 = λ none.
          ne (same_from_bits a 0 (λ i. left_zero (bit_at a i) (bit_at b i) (sym (bit_at_or a b i) ∙ ap (λ n. bit_at n i) none ∙ bit_at-zero i)
          ∙ sym (bit_at-zero i))) in
          rw (nonzero_is (bit_or a b) ne_or, nonzero_is a ne) refl
    ]
  where
    zero_max : (m n : ℕ) → n ≡ 0 → max n m ≡ m
    zero_max m n e = omega arith

    left_zero : (m n : ℕ) → max m n ≡ 0 → m ≡ 0
    left_zero m n e = omega arith
