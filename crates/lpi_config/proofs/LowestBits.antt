-- The lowest bit of a word that is 1, and the lowest from one on.
use Rattle.std.proofs.Common.{◌≡◌, ◌≢◌, ℕ, ◌+◌, ◌-◌, ◌/◌, ◌%◌, ◌^◌, ◌<◌, true, false, eqb, sym, ap, ◌∙◌, inl, inr, arith}
use Rattle.std.specs.Int.{w64, trailing_zeros, bit_at}
use Rattle.std.proofs.Math.Nat.{div-le_self, div-div-eq-div-mul}
use Rattle.std.proofs.lemmas.Nat.{pow-add}
use Rattle.std.proofs.lemmas.Bool.{cases_lt, eq-eqb, both_ways}
use Rattle.std.proofs.lemmas.Nat.Bits.{bit_at-zero, bit_at_above, bit_at-trailing_zeros}
use Rattle.its_types.specs.Bits.{bit_of}
use Rattle.lpi_config.specs.Searches.{NoneIn, IsFirstIn}

pub bit_of-zero : (i : ℕ) → bit_of 0 i ≡ false
bit_of-zero i = ap (λ n. eqb n 1) (bit_at-zero i)

bit_of-one : (n i : ℕ) → bit_at n i ≡ 1 → bit_of n i ≡ true
bit_of-one n i e = eq-eqb (bit_at n i) 1 e

-- the lowest bit of a word that isn't zero
pub record IsLowest (word i : ℕ) : Type 0 where
  pub below : i < 64
  pub met : bit_of word i ≡ true
  pub before : (j : ℕ) → j < i → bit_of word j ≡ false

pub lowest : (word : ℕ) → word ≢ 0 → word < 2 ^ 64 → IsLowest word (trailing_zeros w64 word)
lowest word some small =
    let pos : 0 < word = omega (arith, some) in
    let parts = bit_at-trailing_zeros w64 word pos small in
    record {
      below = parts.0;
      met = bit_of-one word _ parts.1;
      before = λ j lt. ap (λ n. eqb n 1) (parts.2 j lt);
    }

shifted_bit : (word s i : ℕ) → bit_of (word / 2 ^ s) i ≡ bit_of word (s + i)
shifted_bit word s i =
    let split : word / 2 ^ (s + i) ≡ word / 2 ^ s / 2 ^ i = ap (λ d. word / d) (pow-add 2 s i) ∙ sym (div-div-eq-div-mul word (2 ^ s) (2 ^ i)) in
    ap (λ q. eqb (q % 2) 1) (sym split)

bit_within : (word i : ℕ) → word < 2 ^ 64 → bit_of word i ≡ true → i < 64
bit_within word i small is =
    elim (cases_lt i 64) [
      | inl lt ↦ lt
      | inr past ↦ absurd (both_ways (bit_of word i) (ap (λ n. eqb n 1) (bit_at_above word 64 i small past)) is)
    ]

pub bit_found : (word s : ℕ) → word < 2 ^ 64 → word / 2 ^ s ≢ 0 → IsFirstIn (bit_of word) s 64 (s + trailing_zeros w64 (word / 2 ^ s))
bit_found word s small some =
    let fits : word / 2 ^ s < 2 ^ 64 = let le = div-le_self word (2 ^ s) in omega (arith, le) in
    let low = lowest (word / 2 ^ s) some fits in
    let met : bit_of word (s + trailing_zeros w64 (word / 2 ^ s)) ≡ true = sym (shifted_bit word s (trailing_zeros w64 (word / 2 ^ s))) ∙ low.met in
    record {
      from = omega arith;
      below = bit_within word (s + trailing_zeros w64 (word / 2 ^ s)) small met;
      met = met;
      before = λ y from below.
          let split : s + (y - s) ≡ y = omega arith in
          ap (bit_of word) (sym split) ∙ sym (shifted_bit word s (y - s)) ∙ low.before (y - s) (omega arith);
    }

pub no_bit : (word s : ℕ) → word / 2 ^ s ≡ 0 → NoneIn (bit_of word) s 64
no_bit word s none y from below =
    let split : s + (y - s) ≡ y = omega arith in
    ap (bit_of word) (sym split) ∙ sym (shifted_bit word s (y - s)) ∙ ap (λ n. bit_of n (y - s)) none ∙ bit_of-zero (y - s)
