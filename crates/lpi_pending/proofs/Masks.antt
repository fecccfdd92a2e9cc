-- The lowest bit of a mask of lanes.
use Rattle.std.proofs.Common.{◌≡◌, ℕ, suc, zero, ◌+◌, ◌-◌, ◌*◌, ◌/◌, ◌^◌, ◌<◌, ◌≤◌, Bool, true, false, not, cond, List, [], map, length, get_or, take, drop}
use Rattle.std.proofs.Common.{Some, None, refl, sym, ap, ◌∙◌, inl, inr, arith}
use Rattle.std.specs.Prelude.{position}
use Rattle.std.specs.List.{prefix_len}
use Rattle.std.specs.Simd.{first_chunks}
use Rattle.std.specs.Int.{w64, trailing_zeros, bit_at}
use lib.Lanes.{mask_l}
use Rattle.std.proofs.lemmas.Bool.{cases_lt, lt-ltb, le-ltb, cond-true, not-true}
use Rattle.std.proofs.lemmas.List.{length-map, length-drop, length-take-le, get_or_past, get_or-take, get_or-drop, drop-drop}
use Rattle.std.proofs.lemmas.List.Sums.{prefix_len_is, prefix_len_passes}
use Rattle.std.proofs.lemmas.List.Quantifiers.{position-Some}
use Rattle.std.proofs.lemmas.Nat.Bits.{bit_at-trailing_zeros}
use Rattle.std.proofs.lemmas.Simd.{trailing_mask_l, leading_from_mask_l, bit_mask_l}
use Rattle.lpi_pending.specs.Summaries.{is_nonzero}

-- some lane passes, and the lowest bit is the first that does
pub position_by_mask :
    (p : ℕ → Bool) (xs : List ℕ) (m : ℕ) → m ≡ mask_l (map p xs) → m < 2 ^ 64 → length xs ≤ 64 → 0 < m → Some (trailing_zeros w64 m) ≡ position p xs
position_by_mask p xs m is small long some =
    let some' : 0 < mask_l (map p xs) = omega arith in
    let low : trailing_zeros w64 m ≡ prefix_len (λ x. not (p x)) xs = ap (trailing_zeros w64) is ∙ trailing_mask_l p 64 xs long some' in
    let bit : bit_at m (trailing_zeros w64 m) ≡ 1 = (bit_at-trailing_zeros w64 m some small).1 in
    let bit' : cond {A = ℕ} (get_or (map p xs) (prefix_len (λ x. not (p x)) xs) false) 1 0 ≡ 1 =
    sym (bit_mask_l (map p xs) (prefix_len (λ x. not (p x)) xs)) ∙ ap (λ n. bit_at n (prefix_len (λ x. not (p x)) xs)) (sym is) ∙ ap (bit_at m) (sym low) ∙ bit
    in
    elim (cases_lt (prefix_len (λ x. not (p x)) xs) (length xs)) [
      | inl lt ↦ rw (lt-ltb _ _ lt) (ap Some low)
      | inr le ↦
          let past : get_or (map p xs) (prefix_len (λ x. not (p x)) xs) false ≡ false = get_or_past (map p xs) (prefix_len (λ x. not (p x)) xs) false
          (omega (arith, length-map xs p)) in
          let none = rw past at bit' in
          absurd (omega (arith, none))
    ]

pub none_by_mask : (p : ℕ → Bool) (xs : List ℕ) → mask_l (map p xs) ≡ 0 → None ≡ position p xs
none_by_mask p xs is =
    let all : prefix_len (λ x. not (p x)) xs ≡ length xs = leading_from_mask_l p xs is in
    rw (le-ltb (prefix_len (λ x. not (p x)) xs) (length xs) (omega arith)) refl

-- ---- from four words to all

pub position_is :
    (p : ℕ → Bool) (xs : List ℕ) (i : ℕ) → i < length xs → p (get_or xs i 0) ≡ true → ((k : ℕ) → k < i → p (get_or xs k 0) ≡ false) → Some i ≡ position p xs
position_is p xs i lt met before =
    let is : prefix_len (λ x. not (p x)) xs ≡ i =
    prefix_len_is (λ x. not (p x)) xs i 0 (omega arith) (λ k below. rw (before k below) refl) (λ _. rw met refl)
    in
    rw (is, lt-ltb i (length xs) lt) refl

pub position_none : (p : ℕ → Bool) (xs : List ℕ) → ((k : ℕ) → k < length xs → p (get_or xs k 0) ≡ false) → None ≡ position p xs
position_none p xs before =
    let is : prefix_len (λ x. not (p x)) xs ≡ length xs =
    prefix_len_is (λ x. not (p x)) xs (length xs) 0 (omega arith) (λ k below. rw (before k below) refl) (λ lt. absurd (omega (arith, lt)))
    in
    rw (is, le-ltb (length xs) (length xs) (omega arith)) refl

pub get_or-first_chunks : (n k : ℕ) (xs : List ℕ) (i : ℕ) (d : List ℕ) → i < k → get_or (first_chunks n k xs) i d ≡ take n (drop (n * i) xs)
get_or-first_chunks n zero xs i d lt = absurd (omega arith)
get_or-first_chunks n (suc k) xs zero d lt = let none : n * 0 ≡ 0 = omega arith in rw none refl
get_or-first_chunks n (suc k) xs (suc i) d lt =
    let next : n * suc i ≡ n + n * i = omega arith in
    rw next (get_or-first_chunks n k (drop n xs) i d (omega arith) ∙ ap (take n) (drop-drop (n * i) n xs))

-- words up to the i-th four are zero, and this is the four
pub record AtFour (words four : List ℕ) (i : ℕ) : Type 0 where
  pub inside : 4 * i + 4 ≤ length words
  pub long : length four ≡ 4
  pub is : (k : ℕ) → k < 4 → get_or four k 0 ≡ get_or words (4 * i + k) 0

pub at_four :
    (words : List ℕ) (fours : List (List ℕ)) (i : ℕ) → fours ≡ first_chunks 4 (length words / 4) words → i < length words / 4
    → AtFour words (get_or fours i []) i
at_four words fours i split lt =
    let same : get_or fours i [] ≡ take 4 (drop (4 * i) words) = ap (λ (xs : List (List ℕ)). get_or xs i []) split ∙ get_or-first_chunks 4
    (length words / 4) words i [] lt in
    record {
      inside = omega arith;
      long = ap length same ∙ length-take-le 4 (drop (4 * i) words) (omega (arith, length-drop (4 * i) words));
      is = λ k below. ap (λ (xs : List ℕ). get_or xs k 0) same ∙ get_or-take 4 (drop (4 * i) words) k 0 below ∙ get_or-drop (4 * i) words k 0;
    }

pub found_in_four :
    (words four : List ℕ) (i lane : ℕ) → AtFour words four i → ((k : ℕ) → k < 4 * i → is_nonzero (get_or words k 0) ≡ false)
    → Some lane ≡ position is_nonzero four → (lane < 4) × (Some (4 * i + lane) ≡ position is_nonzero words)
found_in_four words four i lane here before e =
    let parts = position-Some is_nonzero four lane 0 (sym e) in
    let lt : lane < 4 = omega (arith, parts.0, here.long) in (
      lt,
      position_is is_nonzero words (4 * i + lane) (omega (arith, here.inside)) (ap is_nonzero (sym (here.is lane lt)) ∙ parts.1)
          (λ k below. elim (cases_lt k (4 * i)) [
            | inl low ↦ before k low
            | inr high ↦
                let split : 4 * i + (k - 4 * i) ≡ k = omega arith in
                ap (λ j. is_nonzero (get_or words j 0)) (sym split) ∙ ap is_nonzero (sym (here.is (k - 4 * i) (omega arith))) ∙ parts.2 (k - 4 * i)
                (omega arith)
          ]),
    )

-- no word of a list is nonzero
pub position-None : (p : ℕ → Bool) (xs : List ℕ) → None ≡ position p xs → (k : ℕ) → k < length xs → p (get_or xs k 0) ≡ false
position-None p xs e k lt =
    elim (cases_lt (prefix_len (λ x. not (p x)) xs) (length xs)) [
      | inl below ↦ absurd (let some : None ≡ Some (prefix_len (λ x. not (p x)) xs) = e ∙ cond-true _ _ _ (lt-ltb _ _ below) in cc)
      | inr all ↦ not-true (p (get_or xs k 0)) (prefix_len_passes (λ x. not (p x)) xs k 0 (omega arith))
    ]

pub none_in_four :
    (words four : List ℕ) (i : ℕ) → AtFour words four i → ((k : ℕ) → k < 4 * i → is_nonzero (get_or words k 0) ≡ false)
    → None ≡ position is_nonzero four → (k : ℕ) → k < 4 * (i + 1) → is_nonzero (get_or words k 0) ≡ false
none_in_four words four i here before e k lt =
    elim (cases_lt k (4 * i)) [
      | inl low ↦ before k low
      | inr high ↦
          let split : 4 * i + (k - 4 * i) ≡ k = omega arith in
          let within : k - 4 * i < 4 = omega arith in
          ap (λ j. is_nonzero (get_or words j 0)) (sym split) ∙ ap is_nonzero (sym (here.is (k - 4 * i) within))
          ∙ position-None is_nonzero four e (k - 4 * i) (omega (arith, here.long))
    ]

-- the words after all fours
pub found_after :
    (words : List ℕ) (i place : ℕ) → ((k : ℕ) → k < i → is_nonzero (get_or words k 0) ≡ false)
    → Some place ≡ position is_nonzero (drop i words) → (i + place < length words) × (Some (i + place) ≡ position is_nonzero words)
found_after words i place before e =
    let parts = position-Some is_nonzero (drop i words) place 0 (sym e) in
    let lt : i + place < length words = omega (arith, parts.0, length-drop i words) in (
      lt,
      position_is is_nonzero words (i + place) lt (ap is_nonzero (sym (get_or-drop i words place 0)) ∙ parts.1)
          (λ k below. elim (cases_lt k i) [
            | inl low ↦ before k low
            | inr high ↦
                let split : i + (k - i) ≡ k = omega arith in
                ap (λ j. is_nonzero (get_or words j 0)) (sym split) ∙ ap is_nonzero (sym (get_or-drop i words (k - i) 0)) ∙ parts.2 (k - i) (omega arith)
          ]),
    )

pub none_after :
    (words : List ℕ) (i : ℕ) → ((k : ℕ) → k < i → is_nonzero (get_or words k 0) ≡ false)
    → None ≡ position is_nonzero (drop i words) → None ≡ position is_nonzero words
none_after words i before e =
    position_none is_nonzero words
    (λ k lt. elim (cases_lt k i) [
      | inl low ↦ before k low
      | inr high ↦
          let split : i + (k - i) ≡ k = omega arith in
          ap (λ j. is_nonzero (get_or words j 0)) (sym split) ∙ ap is_nonzero (sym (get_or-drop i words (k - i) 0))
          ∙ position-None is_nonzero (drop i words) e (k - i) (omega (arith, length-drop i words))
    ])
