-- The words of a pending table, and the set that it has.
use Rattle.std.proofs.Common.{◌≡◌, ◌≢◌, ℕ, ◌+◌, ◌-◌, ◌*◌, ◌/◌, ◌%◌, ◌^◌, ◌<◌, true, false, List, length, get_or, set, Option, Some, Result, Ok, eqb}
use Rattle.std.proofs.Common.{refl, sym, ap, ◌∙◌, inl, inr, arith}
use Rattle.std.specs.Prelude.{◌&&◌, unwrap_or}
use Rattle.std.specs.Option.{ok_or}
use Rattle.std.specs.Int.{bit_at}
use Rattle.std.specs.List.Sorted.{IsStrictlyIncreasing}
use Rattle.std.proofs.Math.Nat.{div-div-eq-div-mul}
use Rattle.std.proofs.lemmas.Nat.{pow-add}
use Rattle.std.proofs.lemmas.Nat.Bits.{bit_at_cat_low}
use Rattle.std.proofs.lemmas.Bool.{cases_lt, cases_Bool, and_from, le-leb, lt-ltb}
use Rattle.std.proofs.lemmas.List.{get_or-set_same, get_or-set_other}
use Rattle.guest_windows.specs.Windows.{Window, byte_at}
use Rattle.its_types.specs.Bits.{bit_of, field}
use Rattle.its_types.specs.Lpis.{is_pending}
use Rattle.its_types.specs.Ranges.{is_lpi, lpi_count}
use Rattle.gicr_regs.specs.Redistributors.{is_set, pending_in}
use Rattle.its_types.specs.Bitmap.{word_bit}
use Rattle.lpi_pending.specs.PendingSets.{lpis_of, table_bit}
use Rattle.lpi_pending.proofs.Bitmaps.{lpi_within, lpis_of-same}
use Rattle.lpi_pending.proofs.Sets.{IsWithin, those, is_pending-those, within-those, rising-those}

-- ---- a word of a table

-- a read that finds its bytes answers them
pub read_answers : {E : Type 0} (o : Option ℕ) (x : ℕ) (e : E) (r : Result ℕ E) → o ≡ Some x → r ≡ ok_or o e → r ≡ Ok x
read_answers o x e r some is = is ∙ ap (λ p. ok_or p e) some

bit_of_byte : (m i : ℕ) → i < 8 → bit_at m i ≡ bit_at (m % 256) i
bit_of_byte m i lt =
    let split : m ≡ m / 256 * 2 ^ 8 + m % 256 = omega arith in
    ap (λ n. bit_at n i) split ∙ bit_at_cat_low (m / 256) 8 (m % 256) i lt

-- a bit of a word is one of a byte
bit_of_word : (w k : ℕ) → bit_of w k ≡ bit_of (field w (8 * (k / 8)) 8) (k % 8)
bit_of_word w k =
    let split : k ≡ 8 * (k / 8) + k % 8 = omega arith in
    let divided : w / 2 ^ k ≡ w / 2 ^ (8 * (k / 8)) / 2 ^ (k % 8) =
    ap (λ e. w / 2 ^ e) split ∙ ap (λ d. w / d) (pow-add 2 (8 * (k / 8)) (k % 8)) ∙ sym (div-div-eq-div-mul w (2 ^ (8 * (k / 8))) (2 ^ (k % 8)))
    in
    let lt : k % 8 < 8 = omega arith in
    ap (λ q. eqb (q % 2) 1) divided ∙ ap (λ b. eqb b 1) (bit_of_byte (w / 2 ^ (8 * (k / 8))) (k % 8) lt)

-- the bits of one word more
pub word_read :
    (memory : List Window) (address : ℕ) (words : List ℕ) (at w : ℕ) → at < length words
    → ((k : ℕ) → k < 64 * at → word_bit words k ≡ table_bit memory address k)
    → ((j : ℕ) → j < 8 → byte_at memory (address + 8 * at + j) ≡ Some (field w (8 * j) 8))
    → (k : ℕ) → k < 64 * (at + 1) → word_bit (set words at w) k ≡ table_bit memory address k
word_read memory address words at w there before bytes k below =
    elim (cases_lt k (64 * at)) [
      | inl low ↦
          let other : k / 64 ≢ at = omega arith in
          ap (λ n. bit_of n (k % 64)) (get_or-set_other words at (k / 64) w 0 other) ∙ before k low
      | inr high ↦
          let index : k / 64 ≡ at = omega arith in
          let small : k % 64 / 8 < 8 = omega arith in
          let place : address + 8 * at + k % 64 / 8 ≡ address + k / 8 = omega arith in
          let bit : k % 64 % 8 ≡ k % 8 = omega arith in
          ap (λ j. bit_of (get_or (set words at w) j 0) (k % 64)) index ∙ ap (λ n. bit_of n (k % 64)) (get_or-set_same words at w 0 there)
          ∙ bit_of_word w (k % 64) ∙ ap (bit_of (field w (8 * (k % 64 / 8)) 8)) bit
          ∙ ap (λ o. bit_of (unwrap_or o 0) (k % 8)) (sym (bytes (k % 64 / 8) small) ∙ ap (byte_at memory) place)
    ]

-- ---- the set of a table

-- words with the bits from byte 1024 on
pub read_set :
    (lpi_bits : ℕ) (memory : List Window) (base : ℕ) (words : List ℕ) → 64 * length words ≡ lpi_count lpi_bits
    → ((k : ℕ) → k < 64 * length words → word_bit words k ≡ table_bit memory (base + 1024) k) → lpis_of words ≡ pending_in lpi_bits memory base
unfolding pending_in
read_set lpi_bits memory base words size bits =
    lpis_of-same words (lpi_count lpi_bits) (is_set memory base) size
    (λ y w.
    let within : y - 8192 < 64 * length words = omega (arith, w.from, w.below, size) in
    let place : base + 1024 + (y - 8192) / 8 ≡ base + y / 8 = omega (arith, w.from) in
    let bit : (y - 8192) % 8 ≡ y % 8 = omega (arith, w.from) in
    bits (y - 8192) within ∙ ap (λ a. bit_of (unwrap_or (byte_at memory a) 0) ((y - 8192) % 8)) place
    ∙ ap (bit_of (unwrap_or (byte_at memory (base + y / 8)) 0)) bit)

-- it rises
pub pending_in_rises : (lpi_bits : ℕ) (memory : List Window) (base : ℕ) → IsStrictlyIncreasing (pending_in lpi_bits memory base)
unfolding pending_in
pending_in_rises lpi_bits memory base k lt = rising-those (is_set memory base) 8192 (lpi_count lpi_bits) k lt

-- and has just the LPIs whose bits are set
pub is_pending-pending_in :
    (lpi_bits : ℕ) (memory : List Window) (base intid : ℕ) → is_pending intid (pending_in lpi_bits memory base)
    ≡ (is_lpi lpi_bits intid && is_set memory base intid)
unfolding pending_in
is_pending-pending_in lpi_bits memory base intid =
    elim (cases_Bool (is_lpi lpi_bits intid)) [
      | inl is ↦
          is_pending-those (is_set memory base) 8192 (lpi_count lpi_bits) intid (lpi_within lpi_bits intid (lpi_count lpi_bits) is refl)
          ∙ sym (ap (λ b. b && is_set memory base intid) is)
      | inr isnt ↦
          elim (cases_Bool (is_pending intid (those (is_set memory base) 8192 (lpi_count lpi_bits)))) [
            | inl there ↦ absurd (not_within isnt (within-those (is_set memory base) 8192 (lpi_count lpi_bits) intid there))
            | inr gone ↦ gone ∙ sym (ap (λ b. b && is_set memory base intid) isnt)
          ]
    ]
  where
    not_within : is_lpi lpi_bits intid ≡ false → IsWithin 8192 (lpi_count lpi_bits) intid → ⊥
    not_within isnt w =
        let is : is_lpi lpi_bits intid ≡ true = and_from _ _ (le-leb 8192 intid w.from) (lt-ltb intid (2 ^ lpi_bits) (omega (arith, w.from, w.below))) in
        let two : true ≡ false = sym is ∙ isnt in
        cc
