-- How many LPIs there are.
use Rattle.std.proofs.Common.{◌≡◌, ℕ, ◌+◌, ◌-◌, ◌*◌, ◌%◌, ◌^◌, ◌<◌, ◌≤◌, ap, ◌∙◌, arith}
use Rattle.std.proofs.Math.Nat.{pow-le-pow_right}
use Rattle.std.proofs.lemmas.Nat.{pow-add}

-- 2 ^ n in pages of 4096
pub record Size (n : ℕ) : Type 0 where
  pub is : 2 ^ n ≡ 4096 * 2 ^ (n - 12)
  pub least : 4 ≤ 2 ^ (n - 12)
  pub most : 2 ^ (n - 12) ≤ 256

pub size_of : (n : ℕ) → 14 ≤ n → n ≤ 20 → Size n
size_of n low high =
    let split : n ≡ 12 + (n - 12) = omega arith in
    record {
      is = ap (λ k. 2 ^ k) split ∙ pow-add 2 12 (n - 12);
      least = let le : 2 ≤ n - 12 = omega arith in pow-le-pow_right (omega arith) le;
      most = let le : n - 12 ≤ 8 = omega arith in pow-le-pow_right (omega arith) le;
    }

-- a byte of the pending table is that of eight LPIs
pub bytes_within : (n size k : ℕ) → 14 ≤ n → n ≤ 20 → size ≡ 2 ^ n - 8192 → k < 2 ^ (n - 3) → 8 * k < 8192 + size
bytes_within n size k low high is below =
    let s = size_of n low high in
    let split : n ≡ 3 + (n - 3) = omega arith in
    let eighth : 2 ^ n ≡ 8 * 2 ^ (n - 3) = ap (λ j. 2 ^ j) split ∙ pow-add 2 3 (n - 3) in
    omega (arith, s.is, s.least)

-- a pending table has a byte for eight LPIs, after 1024 bytes of none
pub record TableSize (n words : ℕ) : Type 0 where
  pub is : 2 ^ (n - 3) ≡ 1024 + 8 * words
  pub shifted : 1 * 2 ^ (n - 3) % 2 ^ 64 ≡ 2 ^ (n - 3)

pub table_size : (n words : ℕ) → 14 ≤ n → n ≤ 20 → 64 * words ≡ 2 ^ n - 8192 → TableSize n words
table_size n words low high is =
    let s = size_of n low high in
    let split : n ≡ 3 + (n - 3) = omega arith in
    let eighth : 2 ^ n ≡ 8 * 2 ^ (n - 3) = ap (λ j. 2 ^ j) split ∙ pow-add 2 3 (n - 3) in
    let bytes : 2 ^ (n - 3) ≡ 1024 + 8 * words = omega (arith, s.is, s.least) in
    record { is = bytes; shifted = omega (arith, s.is, s.most) }
