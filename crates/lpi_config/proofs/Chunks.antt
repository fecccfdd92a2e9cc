-- Bit 0 of each of 64 bytes, as a mask, and of all bytes, 64 to a word.
use Rattle.std.proofs.Common.{◌≡◌, ◌≢◌, ℕ, suc, zero, ◌+◌, ◌-◌, ◌*◌, ◌/◌, ◌%◌, ◌^◌, ◌<◌, Bool, true, false, cond, List, [], map, length, get_or, set, take}
use Rattle.std.proofs.Common.{drop, bit_and, eqb, ltb, refl, sym, ap, ◌∙◌, inl, inr, arith}
use Rattle.std.specs.Prelude.{replicate}
use Rattle.std.specs.Simd.{first_chunks}
use Rattle.std.specs.Int.{w8}
use lib.Lanes.{mask_l, zip2, top}
use Rattle.std.proofs.lemmas.Bool.{cases_lt}
use Rattle.std.proofs.lemmas.List.{length-map, get_or-map, get_or-take, get_or-drop, get_or-set_same, get_or-set_other, drop-drop}
use Rattle.std.proofs.lemmas.Nat.{and_mask}
use Rattle.std.proofs.lemmas.Nat.Bits.{bit_at_lowest}
use Rattle.std.proofs.lemmas.Simd.{zip2_splat, bitmask_splat, bit_mask_l}
use Rattle.its_types.specs.Bits.{bit_of}
use Rattle.its_types.specs.Bitmap.{word_bit}

one_of : (b : Bool) → eqb (cond b 1 0) 1 ≡ b
one_of true = refl
one_of false = refl

pub bit_of-enabled :
    (xs : List ℕ) → length xs ≡ 64 → (k : ℕ) → k < 64
    → bit_of (mask_l (map (top 7) (zip2 (λ a b. cond (eqb a b) (2 ^ 8 - 1) 0) (zip2 bit_and xs (replicate 64 1)) (replicate 64 1))) % 2 ^ 64) k ≡ bit_of
    (get_or xs k 0) 0
bit_of-enabled xs long k lt =
    let lows : zip2 bit_and xs (replicate 64 1) ≡ map (λ x. bit_and x 1) xs = zip2_splat bit_and xs 64 1 long in
    let long' : length (map (λ x. bit_and x 1) xs) ≡ 64 = length-map xs (λ x. bit_and x 1) ∙ long in
    rw (lows, bitmask_splat w8 eqb (map (λ x. bit_and x 1) xs) 64 1 long' (omega arith))
    (ap (λ n. eqb n 1) (bit_mask_l (map (λ x. eqb x 1) (map (λ x. bit_and x 1) xs)) k)
    ∙ one_of (get_or (map (λ x. eqb x 1) (map (λ x. bit_and x 1) xs)) k false)
    ∙ get_or-map (λ x. eqb x 1) (map (λ x. bit_and x 1) xs) k 0 false (omega arith)
    ∙ ap (λ n. eqb n 1) (get_or-map (λ x. bit_and x 1) xs k 0 0 (omega arith) ∙ and_mask (get_or xs k 0) 1 ∙ sym (bit_at_lowest (get_or xs k 0))))

pub get_or-first_chunks : (n k : ℕ) (xs : List ℕ) (i : ℕ) (d : List ℕ) → i < k → get_or (first_chunks n k xs) i d ≡ take n (drop (n * i) xs)
get_or-first_chunks n zero xs i d lt = absurd (omega arith)
get_or-first_chunks n (suc k) xs zero d lt = let none : n * 0 ≡ 0 = omega arith in rw none refl
get_or-first_chunks n (suc k) xs (suc i) d lt =
    let next : n * suc i ≡ n + n * i = omega arith in
    rw next (get_or-first_chunks n k (drop n xs) i d (omega arith) ∙ ap (take n) (drop-drop (n * i) n xs))

-- one word more
pub enabled_more :
    (bytes : List ℕ) (chunks : List (List ℕ)) (words : List ℕ) (i w : ℕ) → chunks ≡ first_chunks 64 (length bytes / 64) bytes → i < length bytes / 64
    → i < length words
    → ((k : ℕ) → k < 64 * i → word_bit words k ≡ bit_of (get_or bytes k 0) 0)
    → ((k : ℕ) → k < 64 → bit_of w k ≡ bit_of (get_or (get_or chunks i []) k 0) 0)
    → (k : ℕ) → k < 64 * (i + 1) → word_bit (set words i w) k ≡ bit_of (get_or bytes k 0) 0
enabled_more bytes chunks words i w split lt there before here k below =
    elim (cases_lt k (64 * i)) [
      | inl low ↦
          let other : k / 64 ≢ i = omega arith in
          ap (λ n. bit_of n (k % 64)) (get_or-set_other words i (k / 64) w 0 other) ∙ before k low
      | inr high ↦
          let chunk : get_or chunks i [] ≡ take 64 (drop (64 * i) bytes) = ap (λ (xs : List (List ℕ)). get_or xs i []) split ∙ get_or-first_chunks 64
          (length bytes / 64) bytes i [] lt in
          let place : 64 * i + k % 64 ≡ k = omega arith in
          let index : k / 64 ≡ i = omega arith in
          let within : k % 64 < 64 = omega arith in
          ap (λ j. bit_of (get_or (set words i w) j 0) (k % 64)) index ∙ ap (λ n. bit_of n (k % 64)) (get_or-set_same words i w 0 there) ∙ here (k % 64) within
          ∙ ap (λ n. bit_of n 0) (ap (λ (xs : List ℕ). get_or xs (k % 64) 0) chunk ∙ get_or-take 64 (drop (64 * i) bytes) (k % 64) 0 within
          ∙ get_or-drop (64 * i) bytes (k % 64) 0 ∙ ap (λ n. get_or bytes n 0) place)
    ]

-- the bytes of a chunk
pub chunk_bytes :
    (bytes : List ℕ) (chunks : List (List ℕ)) (i k : ℕ) → chunks ≡ first_chunks 64 (length bytes / 64) bytes → i < length bytes / 64 → k < 64
    → get_or (get_or chunks i []) k 0 ≡ get_or bytes (64 * i + k) 0
chunk_bytes bytes chunks i k split lt within =
    let chunk : get_or chunks i [] ≡ take 64 (drop (64 * i) bytes) = ap (λ (xs : List (List ℕ)). get_or xs i []) split
    ∙ get_or-first_chunks 64 (length bytes / 64) bytes i [] lt in
    ap (λ (xs : List ℕ). get_or xs k 0) chunk ∙ get_or-take 64 (drop (64 * i) bytes) k 0 within ∙ get_or-drop (64 * i) bytes k 0

-- ---- which bytes are below a limit

pub bit_of-below :
    (xs : List ℕ) (limit k : ℕ) → length xs ≡ 64 → k < 64
    → bit_of (mask_l (map (top 7) (zip2 (λ a b. cond (ltb a b) (2 ^ 8 - 1) 0) xs (replicate 64 limit))) % 2 ^ 64) k ≡ ltb (get_or xs k 0) limit
bit_of-below xs limit k long lt =
    rw (bitmask_splat w8 ltb xs 64 limit long (omega arith))
    (ap (λ n. eqb n 1) (bit_mask_l (map (λ x. ltb x limit) xs) k) ∙ one_of (get_or (map (λ x. ltb x limit) xs) k false)
    ∙ get_or-map (λ x. ltb x limit) xs k 0 false (omega (arith, long)))

pub bit_of-priority :
    (xs : List ℕ) (limit k : ℕ) → length xs ≡ 64 → k < 64
    → bit_of (mask_l (map (top 7) (zip2 (λ a b. cond (ltb a b) (2 ^ 8 - 1) 0) (zip2 bit_and xs (replicate 64 252)) (replicate 64 limit))) % 2 ^ 64) k
    ≡ ltb (bit_and (get_or xs k 0) 252) limit
bit_of-priority xs limit k long lt =
    let priorities : zip2 bit_and xs (replicate 64 252) ≡ map (λ x. bit_and x 252) xs = zip2_splat bit_and xs 64 252 long in
    let long' : length (map (λ x. bit_and x 252) xs) ≡ 64 = length-map xs (λ x. bit_and x 252) ∙ long in
    rw priorities
    (bit_of-below (map (λ x. bit_and x 252) xs) limit k long' lt
    ∙ ap (λ n. ltb n limit) (get_or-map (λ x. bit_and x 252) xs k 0 0 (omega (arith, long))))
