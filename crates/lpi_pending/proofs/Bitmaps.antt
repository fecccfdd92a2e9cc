-- A pending set as the bits of words.
use Rattle.std.proofs.Common.{◌≡◌, ◌≢◌, ℕ, suc, zero, ◌+◌, ◌-◌, ◌*◌, ◌/◌, ◌%◌, ◌^◌, ◌<◌, ◌≤◌, get_or, set, Bool, true, false, not, cond, List, [], length, eqb}
use Rattle.std.proofs.Common.{refl, sym, ap, ◌∙◌, inl, inr, arith}
use Rattle.std.specs.Prelude.{◌||◌, ◌&&◌, replicate}
use Rattle.std.proofs.lemmas.List.{length-set, length-replicate, get_or-replicate, get_or_past}
use Rattle.its_types.specs.Bits.{bit_of}
use Rattle.its_types.proofs.Words.{word_bit-set}
use Rattle.lpi_config.proofs.LowestBits.{bit_of-zero}
use Rattle.std.proofs.lemmas.Bool.{cases_eq, cases_lt, and_parts, leb-true, ltb-true, eq-eqb, ne_eqb, le-leb, lt-ltb, cases_Bool, both_ways}
use Rattle.its_types.specs.Ranges.{is_lpi, lpi_count}
use Rattle.its_types.specs.Lpis.{is_pending, with_lpi, without_lpi}
use Rattle.its_types.specs.Bitmap.{word_bit}
use Rattle.lpi_pending.specs.PendingSets.{lpi_bit, lpis_of}
use Rattle.lpi_pending.proofs.Sets.{IsWithin, those, same_those, those-filter, is_pending-those, within-those, with_lpi-those}

-- an LPI has a bit
pub lpi_within : (lpi_bits x n : ℕ) → is_lpi lpi_bits x ≡ true → n ≡ lpi_count lpi_bits → IsWithin 8192 n x
lpi_within lpi_bits x n is size =
    let both = and_parts _ _ is in
    let low : 8192 ≤ x = leb-true 8192 x both.0 in
    let high = ltb-true x _ both.1 in
    record { from = low; below = omega (arith, high) }

-- the LPIs of words that differ by a test of their bits
pub lpis_of-same :
    (words : List ℕ) (n : ℕ) (p : ℕ → Bool) → 64 * length words ≡ n
    → ((y : ℕ) → IsWithin 8192 n y → lpi_bit words y ≡ p y) → lpis_of words ≡ those p 8192 n
lpis_of-same words n p size same =
    ap (λ m. those (lpi_bit words) 8192 m) size ∙ same_those (lpi_bit words) p 8192 n same

pub lpis_of-set :
    (old new : List ℕ) (x : ℕ) → length new ≡ length old → IsWithin 8192 (64 * length old) x
    → ((k : ℕ) → word_bit new k ≡ cond (eqb k (x - 8192)) true (word_bit old k)) → lpis_of new ≡ with_lpi x (lpis_of old)
lpis_of-set old new x size within bits =
    lpis_of-same new (64 * length old) (λ y. eqb x y || lpi_bit old y) (ap (λ n. 64 * n) size)
    (λ y w. bits (y - 8192) ∙ (elim (cases_eq x y) [
      | inl e ↦ let here : y - 8192 ≡ x - 8192 = omega arith in rw (eq-eqb (y - 8192) (x - 8192) here, eq-eqb x y e) refl
      | inr ne ↦
          let other : (y - 8192 ≡ x - 8192 → ⊥) = λ e. ne (omega (arith, e, w.from, within.from)) in
          rw (ne_eqb (y - 8192) (x - 8192) other, ne_eqb x y ne) refl
    ]))
    ∙ sym (with_lpi-those (lpi_bit old) 8192 (64 * length old) x within)

pub lpis_of-clear :
    (old new : List ℕ) (x : ℕ) → length new ≡ length old → IsWithin 8192 (64 * length old) x
    → ((k : ℕ) → word_bit new k ≡ cond (eqb k (x - 8192)) false (word_bit old k)) → lpis_of new ≡ without_lpi x (lpis_of old)
lpis_of-clear old new x size within bits =
    lpis_of-same new (64 * length old) (λ y. lpi_bit old y && not (eqb y x)) (ap (λ n. 64 * n) size)
    (λ y w. bits (y - 8192) ∙ (elim (cases_eq y x) [
      | inl e ↦
          let here : y - 8192 ≡ x - 8192 = omega arith in
          rw (eq-eqb (y - 8192) (x - 8192) here, eq-eqb y x e) (elim (lpi_bit old y) as (λ b. false ≡ (b && false)) [ true ↦ refl | false ↦ refl ])
      | inr ne ↦
          let other : (y - 8192 ≡ x - 8192 → ⊥) = λ e. ne (omega (arith, e, w.from, within.from)) in
          rw (ne_eqb (y - 8192) (x - 8192) other, ne_eqb y x ne) (elim (lpi_bit old y) as (λ b. b ≡ (b && true)) [ true ↦ refl | false ↦ refl ])
    ]))
    ∙ sym (those-filter (λ y. not (eqb y x)) (lpi_bit old) 8192 (64 * length old))

pub is_pending-lpis_of :
    (words : List ℕ) (x : ℕ) → IsWithin 8192 (64 * length words) x → is_pending x (lpis_of words) ≡ lpi_bit words x
is_pending-lpis_of words x within = is_pending-those (lpi_bit words) 8192 (64 * length words) x within

-- ---- one bit of one word written

pub lpis_of-set_word :
    (words : List ℕ) (x w : ℕ) → IsWithin 8192 (64 * length words) x → bit_of w ((x - 8192) % 64) ≡ true
    → ((i : ℕ) → i < 64 → i ≢ (x - 8192) % 64 → bit_of w i ≡ bit_of (get_or words ((x - 8192) / 64) 0) i)
    → lpis_of (set words ((x - 8192) / 64) w) ≡ with_lpi x (lpis_of words)
lpis_of-set_word words x w within same others =
    lpis_of-set words (set words ((x - 8192) / 64) w) x (length-set words ((x - 8192) / 64) w) within
    (word_bit-set words (x - 8192) w true (omega (arith, within.from, within.below)) same others)

pub lpis_of-clear_word :
    (words : List ℕ) (x w : ℕ) → IsWithin 8192 (64 * length words) x → bit_of w ((x - 8192) % 64) ≡ false
    → ((i : ℕ) → i < 64 → i ≢ (x - 8192) % 64 → bit_of w i ≡ bit_of (get_or words ((x - 8192) / 64) 0) i)
    → lpis_of (set words ((x - 8192) / 64) w) ≡ without_lpi x (lpis_of words)
lpis_of-clear_word words x w within same others =
    lpis_of-clear words (set words ((x - 8192) / 64) w) x (length-set words ((x - 8192) / 64) w) within
    (word_bit-set words (x - 8192) w false (omega (arith, within.from, within.below)) same others)

-- no bit is 1
pub lpis_of-zeros : (n : ℕ) → lpis_of (replicate {A = ℕ} n 0) ≡ []
lpis_of-zeros n =
    lpis_of-same (replicate {A = ℕ} n 0) (64 * length (replicate {A = ℕ} n 0)) (λ _. false) refl
    (λ y w. ap (λ word. bit_of word ((y - 8192) % 64)) (zero_word n ((y - 8192) / 64)) ∙ bit_of-zero ((y - 8192) % 64))
    ∙ none 8192 (64 * length (replicate {A = ℕ} n 0))
  where
    zero_word : (n k : ℕ) → get_or (replicate {A = ℕ} n 0) k 0 ≡ 0
    zero_word n k = elim (cases_lt k n) [
      | inl lt ↦ get_or-replicate n k 0 0 lt
      | inr le ↦ get_or_past (replicate {A = ℕ} n 0) k 0
          (omega (arith, length-replicate {A = ℕ} n 0))
    ]

    none : (a n : ℕ) → those (λ _. false) a n ≡ []
    none a zero = refl
    none a (suc n) = none (a + 1) n

-- ---- as the calls make them: bit `bit` of word j is that of LPI x, and w is the word with this bit written

pub record IsPlace (words : List ℕ) (x j bit word : ℕ) : Type 0 where
  pub within : IsWithin 8192 (64 * length words) x
  pub index : j ≡ (x - 8192) / 64
  pub place : bit ≡ (x - 8192) % 64
  pub word_is : word ≡ get_or words j 0

pub lpi_place :
    (lpi_bits : ℕ) (words : List ℕ) (x j bit word : ℕ) → is_lpi lpi_bits x ≡ true → 64 * length words ≡ lpi_count lpi_bits
    → j ≡ (x - 8192) / 64 → bit ≡ (x - 8192) % 64 → word ≡ get_or words j 0 → IsPlace words x j bit word
lpi_place lpi_bits words x j bit word is size index place word_is =
    record { within = lpi_within lpi_bits x (64 * length words) is size; index = index; place = place; word_is = word_is }

others_of :
    (words : List ℕ) (x j bit word w : ℕ) → IsPlace words x j bit word → ((i : ℕ) → i < 64 → i ≢ bit → bit_of w i ≡ bit_of word i)
    → (i : ℕ) → i < 64 → i ≢ (x - 8192) % 64 → bit_of w i ≡ bit_of (get_or words ((x - 8192) / 64) 0) i
others_of words x j bit word w p others i lt ne =
    let ne' : i ≢ bit = λ e. ne (e ∙ p.place) in
    others i lt ne' ∙ ap (λ n. bit_of n i) p.word_is ∙ ap (λ k. bit_of (get_or words k 0) i) p.index

pub set_lpi :
    (words new : List ℕ) (x j bit word w : ℕ) → IsPlace words x j bit word → bit_of w bit ≡ true
    → ((i : ℕ) → i < 64 → i ≢ bit → bit_of w i ≡ bit_of word i) → new ≡ set words j w → lpis_of new ≡ with_lpi x (lpis_of words)
set_lpi words new x j bit word w p same others is =
    ap lpis_of (is ∙ ap (λ k. set words k w) p.index)
    ∙ lpis_of-set_word words x w p.within (ap (bit_of w) (sym p.place) ∙ same) (others_of words x j bit word w p others)

pub clear_lpi :
    (words new : List ℕ) (x j bit word w : ℕ) → IsPlace words x j bit word → bit_of w bit ≡ false
    → ((i : ℕ) → i < 64 → i ≢ bit → bit_of w i ≡ bit_of word i) → new ≡ set words j w → lpis_of new ≡ without_lpi x (lpis_of words)
clear_lpi words new x j bit word w p same others is =
    ap lpis_of (is ∙ ap (λ k. set words k w) p.index)
    ∙ lpis_of-clear_word words x w p.within (ap (bit_of w) (sym p.place) ∙ same) (others_of words x j bit word w p others)

pub has_lpi : (words : List ℕ) (x j bit word : ℕ) → IsPlace words x j bit word → bit_of word bit ≡ is_pending x (lpis_of words)
has_lpi words x j bit word p =
    ap (λ n. bit_of n bit) (p.word_is ∙ ap (λ k. get_or words k 0) p.index) ∙ ap (bit_of (get_or words ((x - 8192) / 64) 0)) p.place
    ∙ sym (is_pending-lpis_of words x p.within)

-- a number that is no LPI's isn't pending
pub not_pending : (lpi_bits : ℕ) (words : List ℕ) (x : ℕ) → 64 * length words ≡ lpi_count lpi_bits → is_lpi lpi_bits x ≡ false
    → is_pending x (lpis_of words) ≡ false
not_pending lpi_bits words x size isnt =
    elim (cases_Bool (is_pending x (lpis_of words))) [
      | inl is ↦
          let w = within-those (lpi_bit words) 8192 (64 * length words) x is in
          let high : x < 2 ^ lpi_bits = omega (arith, w.below, w.from, size) in
          let lpi : is_lpi lpi_bits x ≡ true = rw (le-leb 8192 x w.from, lt-ltb _ _ high) refl in
          absurd (both_ways (is_lpi lpi_bits x) isnt lpi)
      | inr isnt' ↦ isnt'
    ]
