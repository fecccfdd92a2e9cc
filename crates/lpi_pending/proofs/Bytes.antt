-- A byte of a word, and a byte of a pending table.
use Rattle.std.proofs.Common.{◌≡◌, ◌≢◌, ℕ, suc, zero, ◌+◌, ◌-◌, ◌*◌, ◌/◌, ◌%◌, ◌^◌, ◌<◌, ◌≤◌, Bool, true, false, not, cond, min, max, List, [], ◌∷◌, ◌++◌}
use Rattle.std.proofs.Common.{length, get_or, set, bit_and, bit_or, eqb, refl, sym, ap, ◌∙◌, inl, inr, arith}
use Rattle.std.specs.Prelude.{◌||◌, ◌&&◌}
use Rattle.std.specs.List.{list_any}
use Rattle.std.specs.Int.{w64, bit_at}
use Rattle.std.proofs.Math.Nat.{mod-eq_of_lt, pow-le-pow_right, div-div-eq-div-mul}
use Rattle.std.proofs.lemmas.Nat.{pow-add}
use Rattle.std.proofs.lemmas.Nat.Bits.{bit_at_and, bit_at_or, bit_at_not, bit_at-zero, bit_at-lt, bit_at_above, bit_at_ones, bit_at_cat_low, bit_at_cat_high}
use Rattle.std.proofs.lemmas.Bool.{cases_lt, cases_eq, eq-eqb, ne_eqb}
use Rattle.std.proofs.lemmas.List.{length-set, get_or-set_same, get_or-set_other}
use Rattle.its_types.specs.Bits.{field, bit, bit_of}
use Rattle.its_types.specs.Lpis.{is_pending, pending_bit, pending_byte, lpis_of_byte, with_lpis, with_byte}
use Rattle.lpi_pending.specs.PendingSets.{lpi_bit, lpis_of}
use Rattle.lpi_pending.proofs.Sets.{IsWithin, those-filter, with_lpis-those}
use Rattle.lpi_pending.proofs.Bitmaps.{is_pending-lpis_of, lpis_of-same}

-- ---- one byte of a word replaced

shift_fits : (m s : ℕ) → m < 256 → s ≤ 56 → m * 2 ^ s % 2 ^ 64 ≡ m * 2 ^ s + 0
shift_fits m s small le =
    let most : 2 ^ s ≤ 2 ^ 56 = pow-le-pow_right (omega arith) le in
    let fits : m * 2 ^ s < 2 ^ 64 = grind (arith, product_fits m (2 ^ s) small most) in
    mod-eq_of_lt fits ∙ plus_zero (m * 2 ^ s)
  where
    product_fits : (m p : ℕ) → m < 256 → p ≤ 2 ^ 56 → m * p < 2 ^ 64
    product_fits m p small le = grind arith

    plus_zero : (n : ℕ) → n ≡ n + 0
    plus_zero n = omega arith

shifted_below : (m s i : ℕ) → m < 256 → s ≤ 56 → i < s → bit_at (m * 2 ^ s % 2 ^ 64) i ≡ 0
shifted_below m s i small le lt = ap (λ n. bit_at n i) (shift_fits m s small le) ∙ bit_at_cat_low m s 0 i lt ∙ bit_at-zero i

shifted_from : (m s i : ℕ) → m < 256 → s ≤ 56 → s ≤ i → bit_at (m * 2 ^ s % 2 ^ 64) i ≡ bit_at m (i - s)
shifted_from m s i small le from =
    let none : 0 ≤ s = omega arith in
    let pos : 2 ^ 0 ≤ 2 ^ s = pow-le-pow_right (omega arith) none in
    ap (λ n. bit_at n i) (shift_fits m s small le) ∙ bit_at_cat_high m s 0 i (omega (arith, pos)) from

-- the bits of a byte from s on, where a number has 8 bits
shifted_in : (m s i : ℕ) → m < 256 → s ≤ 56 → s ≤ i → i < s + 8 → bit_at (m * 2 ^ s % 2 ^ 64) i ≡ bit_at m (i - s)
shifted_in m s i small le from below = shifted_from m s i small le from

shifted_out : (m s i : ℕ) → m < 256 → s ≤ 56 → (s ≤ i → i < s + 8 → ⊥) → bit_at (m * 2 ^ s % 2 ^ 64) i ≡ 0
shifted_out m s i small le out =
    elim (cases_lt i s) [
      | inl lt ↦ shifted_below m s i small le lt
      | inr from ↦
          shifted_from m s i small le from
          ∙ bit_at_above m 8 (i - s) small (elim (cases_lt i (s + 8)) [ inl below ↦ absurd (out from below) | inr past ↦ omega arith ])
    ]

pub bits-with_byte :
    (word byte at_byte i : ℕ) → byte < 256 → at_byte < 8 → i < 64
    → bit_of (bit_or (bit_and word (18446744073709551615 - 255 * 2 ^ (8 * at_byte) % 2 ^ 64)) (byte * 2 ^ (8 * at_byte) % 2 ^ 64)) i
    ≡ cond (eqb (i / 8) at_byte) (bit_of byte (i % 8)) (bit_of word i)
bits-with_byte word byte at_byte i small within lt =
    let s : ℕ = 8 * at_byte in
    let mask : ℕ = 255 * 2 ^ (8 * at_byte) % 2 ^ 64 in
    let le : 8 * at_byte ≤ 56 = omega arith in
    let fits : 255 * 2 ^ (8 * at_byte) % 2 ^ 64 < 2 ^ 64 = omega arith in
    let or_is : bit_at (bit_or (bit_and word (18446744073709551615 - mask)) (byte * 2 ^ (8 * at_byte) % 2 ^ 64)) i ≡ max
    (min (bit_at word i) (1 - bit_at mask i)) (bit_at (byte * 2 ^ (8 * at_byte) % 2 ^ 64) i) =
    bit_at_or (bit_and word (18446744073709551615 - mask)) (byte * 2 ^ (8 * at_byte) % 2 ^ 64) i
    ∙ ap (λ n. max n (bit_at (byte * 2 ^ (8 * at_byte) % 2 ^ 64) i)) (bit_at_and word (18446744073709551615 - mask) i ∙ ap (min (bit_at word i))
    (bit_at_not w64 mask i fits lt))
    in
    elim (cases_eq (i / 8) at_byte) [
      | inl e ↦
          let from : 8 * at_byte ≤ i = omega arith in
          let below : i < 8 * at_byte + 8 = omega arith in
          let place : i - 8 * at_byte ≡ i % 8 = omega arith in
          let ones : bit_at mask i ≡ 1 = shifted_in 255 (8 * at_byte) i (omega arith) le from below ∙ bit_at_ones 8 (i - 8 * at_byte) (omega arith) in
          let here : bit_at (byte * 2 ^ (8 * at_byte) % 2 ^ 64) i ≡ bit_at byte (i % 8) = shifted_in byte (8 * at_byte) i small le from below
          ∙ ap (bit_at byte) place in
          rw (eq-eqb (i / 8) at_byte e) (ap (λ n. eqb n 1) (or_is ∙ kept_right (bit_at word i) (bit_at mask i) _ ones ∙ here))
      | inr ne ↦
          let out : (8 * at_byte ≤ i → i < 8 * at_byte + 8 → ⊥) = λ from below. ne (omega arith) in
          let none : bit_at mask i ≡ 0 = shifted_out 255 (8 * at_byte) i (omega arith) le out in
          let none' : bit_at (byte * 2 ^ (8 * at_byte) % 2 ^ 64) i ≡ 0 = shifted_out byte (8 * at_byte) i small le out in
          rw (ne_eqb (i / 8) at_byte ne) (ap (λ n. eqb n 1) (or_is ∙ kept_left (bit_at word i) (bit_at mask i) _ (bit_at-lt word i) none none'))
    ]
  where
    kept_right : (w m b : ℕ) → m ≡ 1 → max (min w (1 - m)) b ≡ b
    kept_right w m b one = omega arith

    kept_left : (w m b : ℕ) → w < 2 → m ≡ 0 → b ≡ 0 → max (min w (1 - m)) b ≡ w
    kept_left w m b lt none none' = omega arith

-- ---- a byte of the table read

bit_is : (n : ℕ) → bit (eqb (n % 2) 1) ≡ n % 2
bit_is n = elim (cases_eq (n % 2) 1) [ inl e ↦ rw (eq-eqb (n % 2) 1 e) (sym e) | inr ne ↦ rw (ne_eqb (n % 2) 1 ne) (omega arith) ]

-- the LPIs of byte n are eight bits of word j from bit s on
pub record IsByte (words : List ℕ) (n j s : ℕ) : Type 0 where
  pub first : 1024 ≤ n
  pub inside : j < length words
  pub index : j ≡ (n - 1024) / 8
  pub place : s ≡ 8 * ((n - 1024) % 8)

pub byte_at : (words : List ℕ) (n size : ℕ) → 1024 ≤ n → 8 * n < 8192 + 64 * length words → IsByte words n ((n - 1024) / 8) (8 * ((n - 1024) % 8))
byte_at words n size first below = record { first = first; inside = omega arith; index = refl; place = refl }

pending_bit_is :
    (words : List ℕ) (n j s i : ℕ) → IsByte words n j s → i < 8 → pending_bit (8 * n + i) (lpis_of words) ≡ get_or words j 0 / 2 ^ s / 2 ^ i % 2
pending_bit_is words n j s i b lt =
    let within : IsWithin 8192 (64 * length words) (8 * n + i) = record { from = omega (arith, b.first); below = omega (arith, b.inside, b.index, b.first) } in
    let index : (8 * n + i - 8192) / 64 ≡ j = omega (arith, b.index, b.first) in
    let place : (8 * n + i - 8192) % 64 ≡ s + i = omega (arith, b.place, b.first) in
    let split : get_or words j 0 / 2 ^ (s + i) ≡ get_or words j 0 / 2 ^ s / 2 ^ i = ap (λ d. get_or words j 0 / d) (pow-add 2 s i)
    ∙ sym (div-div-eq-div-mul (get_or words j 0) (2 ^ s) (2 ^ i)) in
    ap bit (is_pending-lpis_of words (8 * n + i) within)
    ∙ ap (λ k. bit (bit_of (get_or words k 0) ((8 * n + i - 8192) % 64))) index
    ∙ ap (λ k. bit (bit_of (get_or words j 0) k)) place
    ∙ bit_is (get_or words j 0 / 2 ^ (s + i))
    ∙ ap (λ q. q % 2) split

eight_bits : (m : ℕ) → m % 256 ≡ m / 1 % 2 + 2 * (m / 2 % 2) + 4 * (m / 4 % 2) + 8 * (m / 8 % 2) + 16 * (m / 16 % 2) + 32 * (m / 32 % 2) + 64 * (m / 64 % 2)
    + 128 * (m / 128 % 2)
eight_bits m = omega arith

pub pending_byte_is : (words : List ℕ) (n j s : ℕ) → IsByte words n j s → field (get_or words j 0) s 8 ≡ pending_byte n (lpis_of words)
pending_byte_is words n j s b =
    let m : ℕ = get_or words j 0 / 2 ^ s in
    let whole : 8 * n ≡ 8 * n + 0 = omega arith in
    let first : pending_bit (8 * n) (lpis_of words) ≡ get_or words j 0 / 2 ^ s / 1 % 2 = ap (λ x. pending_bit x (lpis_of words)) whole
    ∙ pending_bit_is words n j s 0 b (omega arith) in
    eight_bits (get_or words j 0 / 2 ^ s)
    ∙ sym (rw (
      first,
      pending_bit_is words n j s 1 b (omega arith),
      pending_bit_is words n j s 2 b (omega arith),
      pending_bit_is words n j s 3 b
          (omega arith),
      pending_bit_is words n j s 4 b (omega arith),
      pending_bit_is words n j s 5 b (omega arith),
      pending_bit_is words n j s 6 b
          (omega arith),
      pending_bit_is words n j s 7 b (omega arith),
    ) refl)

-- ---- a byte of the table written

any_append : (p : ℕ → Bool) (xs ys : List ℕ) → list_any p (xs ++ ys) ≡ (list_any p xs || list_any p ys)
any_append p [] ys = refl
any_append p (x ∷ xs) ys = elim (p x) as (λ b. (b || list_any p (xs ++ ys)) ≡ ((b || list_any p xs) || list_any p ys)) [
  | true ↦ refl
  | false ↦ any_append p xs
      ys
]

one_lpi : ℕ → ℕ → ℕ → List ℕ
one_lpi n byte i = cond (bit_of byte i) ((8 * n + i) ∷ []) []

-- the LPIs of the first m bits
first_lpis : ℕ → ℕ → ℕ → List ℕ
first_lpis n byte zero = []
first_lpis n byte (suc m) = first_lpis n byte m ++ one_lpi n byte m

all_lpis : (n byte : ℕ) → first_lpis n byte 8 ≡ lpis_of_byte n byte
unfolding first_lpis one_lpi
all_lpis n byte = refl

one_other : (n byte i y : ℕ) → y ≢ 8 * n + i → is_pending y (one_lpi n byte i) ≡ false
unfolding one_lpi
one_other n byte i y ne =
    let other : (8 * n + i ≡ y → ⊥) = λ e. ne (sym e) in
    elim (bit_of byte i) as (λ b. is_pending y (cond b ((8 * n + i) ∷ []) []) ≡ false) [ true ↦ rw (ne_eqb (8 * n + i) y other) refl | false ↦ refl ]

one_same : (n byte i y : ℕ) → y ≡ 8 * n + i → is_pending y (one_lpi n byte i) ≡ bit_of byte i
unfolding one_lpi
one_same n byte i y e =
    elim (bit_of byte i) as (λ b. is_pending y (cond b ((8 * n + i) ∷ []) []) ≡ b) [ true ↦ rw (eq-eqb (8 * n + i) y (sym e)) refl | false ↦ refl ]

first_other : (n byte m y : ℕ) → ((i : ℕ) → i < m → y ≢ 8 * n + i) → is_pending y (first_lpis n byte m) ≡ false
unfolding first_lpis
first_other n byte zero y others = refl
first_other n byte (suc m) y others =
    let before = first_other n byte m y (λ i lt. others i (omega arith)) in
    any_append (λ x. eqb x y) (first_lpis n byte m) (one_lpi n byte m) ∙ rw (before) (one_other n byte m y (others m (omega arith)))

first_same : (n byte m y i : ℕ) → i < m → y ≡ 8 * n + i → is_pending y (first_lpis n byte m) ≡ bit_of byte i
unfolding first_lpis
first_same n byte zero y i lt e = absurd (omega arith)
first_same n byte (suc m) y i lt e =
    any_append (λ x. eqb x y) (first_lpis n byte m) (one_lpi n byte m)
    ∙ (elim (cases_eq i m) [
      | inl last ↦
          let before : is_pending y (first_lpis n byte m) ≡ false = first_other n byte m y (λ k below same. omega (arith, below, same)) in
          let place : y ≡ 8 * n + m = omega arith in
          rw before (one_same n byte m y place ∙ ap (bit_of byte) (sym last))
      | inr earlier ↦
          let before = first_same n byte m y i (omega (arith, earlier)) e in
          let after : is_pending y (one_lpi n byte m) ≡ false = one_other n byte m y (λ same. earlier (omega (arith, same))) in
          rw (before, after) (or_false (bit_of byte i))
    ])
  where
    or_false : (b : Bool) → (b || false) ≡ b
    or_false true = refl
    or_false false = refl

-- which LPIs a byte has
pub is_pending-byte_in : (n byte y : ℕ) → y / 8 ≡ n → is_pending y (lpis_of_byte n byte) ≡ bit_of byte (y % 8)
is_pending-byte_in n byte y e =
    ap (is_pending y) (sym (all_lpis n byte)) ∙ first_same n byte 8 y (y % 8) (omega arith) (omega arith)

pub is_pending-byte_out : (n byte y : ℕ) → y / 8 ≢ n → is_pending y (lpis_of_byte n byte) ≡ false
is_pending-byte_out n byte y ne =
    ap (is_pending y) (sym (all_lpis n byte)) ∙ first_other n byte 8 y (λ i lt same. ne (omega (arith, lt, same)))

-- the bits of a table in which byte n is written
bits_written :
    (words : List ℕ) (n byte j s w y : ℕ) → IsByte words n j s → IsWithin 8192 (64 * length words) y
    → ((i : ℕ) → i < 64 → bit_of w i ≡ cond (eqb (i / 8) ((n - 1024) % 8)) (bit_of byte (i % 8)) (bit_of (get_or words j 0) i))
    → lpi_bit (set words j w) y ≡ (is_pending y (lpis_of_byte n byte) || (lpi_bit words y && not (eqb (y / 8) n)))
bits_written words n byte j s w y b within bits =
    elim (cases_eq ((y - 8192) / 64) j) [
      | inl here ↦
          let lt : (y - 8192) % 64 < 64 = omega arith in
          let word : lpi_bit (set words j w) y ≡ bit_of w ((y - 8192) % 64) =
          ap (λ k. bit_of (get_or (set words j w) k 0) ((y - 8192) % 64)) here ∙ ap (λ v. bit_of v ((y - 8192) % 64)) (get_or-set_same words j w 0 b.inside)
          in
          let old : bit_of (get_or words j 0) ((y - 8192) % 64) ≡ lpi_bit words y = ap (λ k. bit_of (get_or words k 0) ((y - 8192) % 64)) (sym here) in
          word ∙ bits ((y - 8192) % 64) lt
          ∙ (elim (cases_eq (y / 8) n) [
            | inl e ↦
                let at_byte : (y - 8192) % 64 / 8 ≡ (n - 1024) % 8 = omega (arith, within.from) in
                let at_bit : (y - 8192) % 64 % 8 ≡ y % 8 = omega (arith, within.from) in
                rw (eq-eqb _ _ at_byte, is_pending-byte_in n byte y e, eq-eqb (y / 8) n e, at_bit) (or_and_false (bit_of byte (y % 8)) (lpi_bit words y))
            | inr ne ↦
                let other : ((y - 8192) % 64 / 8 ≡ (n - 1024) % 8 → ⊥) = λ e. ne (omega (arith, e, here, b.index, b.first, within.from)) in
                rw (ne_eqb _ _ other, is_pending-byte_out n byte y ne, ne_eqb (y / 8) n ne) (old ∙ and_true (lpi_bit words y))
          ])
      | inr elsewhere ↦
          let ne : y / 8 ≢ n = λ e. elsewhere (omega (arith, e, b.index, b.first, within.from)) in
          rw (is_pending-byte_out n byte y ne, ne_eqb (y / 8) n ne)
          (ap (λ v. bit_of v ((y - 8192) % 64)) (get_or-set_other words j ((y - 8192) / 64) w 0 elsewhere) ∙ and_true (lpi_bit words y))
    ]
  where
    or_and_false : (x y : Bool) → x ≡ (x || (y && false))
    or_and_false true y = refl
    or_and_false false true = refl
    or_and_false false false = refl

    and_true : (x : Bool) → x ≡ (x && true)
    and_true true = refl
    and_true false = refl

pub lpis_of-set_byte :
    (words : List ℕ) (n byte j s w : ℕ) → IsByte words n j s
    → ((i : ℕ) → i < 64 → bit_of w i ≡ cond (eqb (i / 8) ((n - 1024) % 8)) (bit_of byte (i % 8)) (bit_of (get_or words j 0) i))
    → lpis_of (set words j w) ≡ with_byte n byte (lpis_of words)
lpis_of-set_byte words n byte j s w b bits =
    lpis_of-same (set words j w) (64 * length words) (λ y. is_pending y (lpis_of_byte n byte) || (lpi_bit words y && not (eqb (y / 8) n)))
    (ap (λ k. 64 * k) (length-set words j w)) (λ y within. bits_written words n byte j s w y b within bits)
    ∙ sym (with_lpis-those (lpis_of_byte n byte) (λ y. lpi_bit words y && not (eqb (y / 8) n)) 8192 (64 * length words) (λ y is. in_byte y is))
    ∙ ap (with_lpis (lpis_of_byte n byte)) (sym (those-filter (λ x. not (eqb (x / 8) n)) (lpi_bit words) 8192 (64 * length words)))
  where
    in_byte : (y : ℕ) → is_pending y (lpis_of_byte n byte) ≡ true → IsWithin 8192 (64 * length words) y
    in_byte y is =
        elim (cases_eq (y / 8) n) [
          | inl e ↦ record { from = omega (arith, b.first); below = omega (arith, b.inside, b.index, b.first) }
          | inr ne ↦ absurd (let none : false ≡ true = sym (is_pending-byte_out n byte y ne) ∙ is in cc)
        ]
