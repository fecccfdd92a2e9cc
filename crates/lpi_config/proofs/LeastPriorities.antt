-- The least priorities: of a word by its bytes, of a group by its words, and the first group below a limit.
use Rattle.std.proofs.Common.{◌≡◌, ◌≢◌, ℕ, ◌+◌, ◌-◌, ◌*◌, ◌/◌, ◌%◌, ◌^◌, ◌<◌, ◌≤◌, Bool, true, cond, bit_and, eqb, leb, ltb, List, length, get_or, set, Option}
use Rattle.std.proofs.Common.{Some, None, sym, ap, ◌∙◌, inl, inr, arith}
use Rattle.std.specs.Prelude.{replicate}
use Rattle.std.specs.Int.{w64, trailing_zeros}
use Rattle.std.proofs.lemmas.Bool.{cases_lt, cases_eq, eq-eqb, ne_eqb, le-ltb, leb-true, ltb-true, cond-true, cond-false, and_parts, both_ways}
use Rattle.std.proofs.lemmas.Nat.{and_mask}
use Rattle.std.proofs.lemmas.Nat.Bits.{bit_at_lowest}
use Rattle.std.proofs.lemmas.List.{length-set, get_or-set_same, get_or-set_other, get_or_past, get_or_default, get_or-replicate, length-replicate}
use Rattle.its_types.specs.Bits.{bit_of}
use Rattle.its_types.specs.Bitmap.{word_bit}
use Rattle.its_types.specs.Ranges.{is_lpi, lpi_count}
use Rattle.lpi_config.specs.Bounds.{least_in, rank, least_priority, least_of_word, least_of_group, AreOfBytes, AreOfWords, IsOfWords}
use Rattle.lpi_config.specs.Configurations.{AreEnableBits}
use Rattle.lpi_config.specs.Searches.{NoneIn, IsFirstIn, FirstIn}
use Rattle.lpi_config.proofs.LeastIn.{least_same, least_none, least_shift, least_pieces}
use Rattle.lpi_config.proofs.LowestBits.{bit_of-zero, bit_found, no_bit}

-- ---- lists

pub set_more :
    (xs : List ℕ) (i x : ℕ) (P : ℕ → ℕ) → i < length xs → ((k : ℕ) → k < i → get_or xs k 0 ≡ P k) → x ≡ P i
    → (k : ℕ) → k < i + 1 → get_or (set xs i x) k 0 ≡ P k
set_more xs i x P there before here k lt =
    elim (cases_eq k i) [
      | inl e ↦ ap (λ j. get_or (set xs i x) j 0) e ∙ get_or-set_same xs i x 0 there ∙ here ∙ ap P (sym e)
      | inr ne ↦ get_or-set_other xs i k x 0 ne ∙ before k (omega (arith, lt, ne))
    ]

-- one value all along
pub all_same : (n i a : ℕ) → get_or (replicate n a) i a ≡ a
all_same n i a =
    elim (cases_lt i n) [
      | inl lt ↦ get_or-replicate n i a a lt
      | inr past ↦ get_or_past (replicate n a) i a (omega (arith, past, length-replicate n a))
    ]

-- ---- of 64 bytes

pub least_of_64 :
    (f g : ℕ → ℕ) (at : ℕ) → ((k : ℕ) → k < 64 → f k ≡ g (64 * at + k)) → least_in f 0 64 ≡ least_in g (64 * at) 64
least_of_64 f g at same =
    let place : 64 * at + 0 ≡ 64 * at = omega arith in
    least_same f (λ k. g (64 * at + k)) 0 64 (λ k from below. same k (omega (arith, below))) ∙ least_shift g (64 * at) 0 64
    ∙ ap (λ p. least_in g p 64) place

pub word_by_bytes :
    (bytes chunk : List ℕ) (at : ℕ) → ((k : ℕ) → k < 64 → get_or chunk k 0 ≡ get_or bytes (64 * at + k) 0)
    → least_in (λ k. rank (get_or chunk k 0)) 0 64 ≡ least_of_word bytes at
word_by_bytes bytes chunk at same =
    least_of_64 (λ k. rank (get_or chunk k 0)) (λ k. rank (get_or bytes k 0)) at (λ k lt. ap (λ b. rank b) (same k lt))

pub group_by_words :
    (words chunk : List ℕ) (at : ℕ) → 64 * at + 64 ≤ length words → ((k : ℕ) → k < 64 → get_or chunk k 0 ≡ get_or words (64 * at + k) 0)
    → least_in (λ k. get_or chunk k 0) 0 64 ≡ least_of_group words at
group_by_words words chunk at within same =
    least_of_64 (λ k. get_or chunk k 0) (λ j. get_or words j 255) at
    (λ k lt. same k lt ∙ get_or_default words (64 * at + k) 0 255 (omega (arith, within, lt)))

-- past the last word there is none
pub group_past : (words : List ℕ) (g : ℕ) → length words ≤ 64 * g → least_of_group words g ≡ 255
group_past words g past = least_none (λ j. get_or words j 255) (64 * g) 64 (λ j from below. get_or_past words j 255 (omega (arith, past, from)))

group_of_255 : (n g : ℕ) → least_of_group (replicate n 255) g ≡ 255
group_of_255 n g = least_none (λ j. get_or (replicate n 255) j 255) (64 * g) 64 (λ j from below. all_same n j 255)

word_of_zeros : (n j : ℕ) → least_of_word (replicate n 0) j ≡ 255
word_of_zeros n j = least_none (λ k. rank (get_or (replicate n 0) k 0)) (64 * j) 64 (λ k from below. ap (λ b. rank b) (all_same n k 0))

-- ---- no LPI is enabled

pub none_of_words :
    (groups words : List ℕ) (n m : ℕ) → groups ≡ replicate n 255 → words ≡ replicate m 255 → m % 64 ≡ 0 → n % 64 ≡ 0 → m ≤ 64 * n → n ≤ 256
    → IsOfWords groups words
none_of_words groups words n m gs ws whole blocks room small =
    let count : length groups ≡ n = ap length gs ∙ length-replicate n 255 in
    let count' : length words ≡ m = ap length ws ∙ length-replicate m 255 in
    record {
      whole = ap (λ k. k % 64) count' ∙ whole;
      blocks = ap (λ k. k % 64) count ∙ blocks;
      room = omega (arith, count, count', room);
      small = omega (arith, count, small);
      in_step = λ g lt. ap (λ (xs : List ℕ). get_or xs g 0) gs ∙ get_or-replicate n g 255 0 (omega (arith, lt, count)) ∙ sym (group_of_255 m g)
          ∙ ap (λ (xs : List ℕ). least_of_group xs g) (sym ws);
    }

pub none_of_bytes : (words bytes : List ℕ) (n m : ℕ) → words ≡ replicate n 255 → bytes ≡ replicate m 0 → AreOfBytes words bytes
none_of_bytes words bytes n m ws bs j lt =
    let count : length words ≡ n = ap length ws ∙ length-replicate n 255 in
    ap (λ (xs : List ℕ). get_or xs j 0) ws ∙ get_or-replicate n j 255 0 (omega (arith, lt, count)) ∙ sym (word_of_zeros m j)
    ∙ ap (λ (xs : List ℕ). least_of_word xs j) (sym bs)

pub none_enabled : (enabled bytes : List ℕ) (n m : ℕ) → enabled ≡ replicate n 0 → bytes ≡ replicate m 0 → AreEnableBits enabled bytes
none_enabled enabled bytes n m es bs k lt =
    ap (λ (xs : List ℕ). word_bit xs k) es ∙ ap (λ w. bit_of w (k % 64)) (all_same n (k / 64) 0) ∙ bit_of-zero (k % 64) ∙ sym (bit_of-zero 0)
    ∙ ap (λ b. bit_of b 0) (sym (all_same m k 0)) ∙ ap (λ (xs : List ℕ). bit_of (get_or xs k 0) 0) (sym bs)

-- one LPI's enable bit
pub enabled_with :
    (bytes enabled enabled' : List ℕ) (at byte : ℕ) → AreEnableBits enabled bytes → at < length bytes
    → ((k : ℕ) → word_bit enabled' k ≡ cond (eqb k at) (eqb (bit_and byte 1) 1) (word_bit enabled k)) → AreEnableBits enabled' (set bytes at byte)
enabled_with bytes enabled enabled' at byte are there bits k lt =
    elim (cases_eq k at) [
      | inl e ↦
          bits k ∙ cond-true (eqb k at) (eqb (bit_and byte 1) 1) (word_bit enabled k) (eq-eqb k at e)
          ∙ ap (λ n. eqb n 1) (and_mask byte 1 ∙ sym (bit_at_lowest byte))
          ∙ ap (λ b. bit_of b 0) (sym (ap (λ j. get_or (set bytes at byte) j 0) e ∙ get_or-set_same bytes at byte 0 there))
      | inr ne ↦
          bits k ∙ cond-false (eqb k at) (eqb (bit_and byte 1) 1) (word_bit enabled k) (ne_eqb k at ne)
          ∙ are k (omega (arith, lt, length-set bytes at byte)) ∙ ap (λ b. bit_of b 0) (sym (get_or-set_other bytes at k byte 0 ne))
    ]

-- ---- all words anew

pub all_of_words :
    (groups words groups' words' : List ℕ) → IsOfWords groups words → length words' ≡ length words → length groups' ≡ length groups
    → AreOfWords groups' words' (length words' / 64) → ((g : ℕ) → length words' / 64 ≤ g → get_or groups' g 0 ≡ get_or groups g 0)
    → IsOfWords groups' words'
all_of_words groups words groups' words' is size size' anew others = record {
  whole = ap (λ k. k % 64) size ∙ is.whole;
  blocks = ap (λ k. k % 64) size' ∙ is.blocks;
  room = omega (arith, size, size', is.room);
  small = omega (arith, size', is.small);
  in_step = λ g lt. elim (cases_lt g (length words' / 64)) [
    | inl low ↦ anew g low
    | inr past ↦
        let whole = is.whole in
        others g past ∙ is.in_step g (omega (arith, lt, size')) ∙ group_past words g (omega (arith, past, size, whole))
        ∙ sym (group_past words' g (omega (arith, past, size, whole)))
  ];
}

-- ---- one word anew

pub group_within : (groups words : List ℕ) (at : ℕ) → IsOfWords groups words → at < length words → 64 * (at / 64) + 64 ≤ length words
group_within groups words at is there = let whole = is.whole in omega (arith, whole, there)

pub one_of_words :
    (groups words : List ℕ) (at x y : ℕ) → IsOfWords groups words → at < length words → y ≡ least_of_group (set words at x) (at / 64)
    → IsOfWords (set groups (at / 64) y) (set words at x)
one_of_words groups words at x y is there anew =
    let size = length-set words at x in
    let size' = length-set groups (at / 64) y in
    let room = is.room in
    record {
      whole = ap (λ k. k % 64) size ∙ is.whole;
      blocks = ap (λ k. k % 64) size' ∙ is.blocks;
      room = omega (arith, size, size', room);
      small = omega (arith, size', is.small);
      in_step = λ g lt. elim (cases_eq g (at / 64)) [
        | inl e ↦
            ap (λ j. get_or (set groups (at / 64) y) j 0) e ∙ get_or-set_same groups (at / 64) y 0 (omega (arith, there, room)) ∙ anew
            ∙ ap (λ j. least_of_group (set words at x) j) (sym e)
        | inr ne ↦
            get_or-set_other groups (at / 64) g y 0 ne ∙ is.in_step g (omega (arith, lt, size'))
            ∙ least_same (λ j. get_or words j 255) (λ j. get_or (set words at x) j 255) (64 * g) 64
            (λ j from below. let other : j ≢ at = λ e. ne (omega (arith, from, below, e)) in sym (get_or-set_other words at j x 255 other))
      ];
    }

-- one byte anew
pub one_of_bytes :
    (words bytes : List ℕ) (at b y : ℕ) → AreOfBytes words bytes → at / 64 < length words → y ≡ least_of_word (set bytes at b) (at / 64)
    → AreOfBytes (set words (at / 64) y) (set bytes at b)
one_of_bytes words bytes at b y are there anew j lt =
    elim (cases_eq j (at / 64)) [
      | inl e ↦
          ap (λ i. get_or (set words (at / 64) y) i 0) e ∙ get_or-set_same words (at / 64) y 0 there ∙ anew
          ∙ ap (λ i. least_of_word (set bytes at b) i) (sym e)
      | inr ne ↦
          get_or-set_other words (at / 64) j y 0 ne ∙ are j (omega (arith, lt, length-set words (at / 64) y))
          ∙ least_same (λ k. rank (get_or bytes k 0)) (λ k. rank (get_or (set bytes at b) k 0)) (64 * j) 64
          (λ k from below. let other : k ≢ at = λ e. ne (omega (arith, from, below, e)) in ap (λ c. rank c) (sym (get_or-set_other bytes at k b 0 other)))
    ]

pub byte_within :
    (lpi_bits intid : ℕ) (bytes : List ℕ) → is_lpi lpi_bits intid ≡ true → length bytes ≡ lpi_count lpi_bits → intid - 8192 < length bytes
byte_within lpi_bits intid bytes is size =
    let parts = and_parts (leb 8192 intid) (ltb intid (2 ^ lpi_bits)) is in
    let low = leb-true 8192 intid parts.0 in
    let high = ltb-true intid (2 ^ lpi_bits) parts.1 in
    omega (arith, low, high, size)

pub word_within :
    (lpi_bits intid : ℕ) (bytes words : List ℕ) → is_lpi lpi_bits intid ≡ true → length bytes ≡ lpi_count lpi_bits → 64 * length words ≡ length bytes
    → (intid - 8192) / 64 < length words
word_within lpi_bits intid bytes words is size size' = omega (arith, byte_within lpi_bits intid bytes is size, size')

-- ---- the first group below a limit

-- a block of 64 numbers, of which those before one aren't looked at
pub record IsBlock (numbers : List ℕ) (limit at word : ℕ) : Type 0 where
  pub bits : (k : ℕ) → k < 64 → bit_of word k ≡ ltb (get_or numbers (64 * (at / 64) + k) 0) limit
  pub small : word < 2 ^ 64

pub is_block :
    (numbers chunk : List ℕ) (limit at word : ℕ) → ((k : ℕ) → k < 64 → get_or chunk k 0 ≡ get_or numbers (64 * (at / 64) + k) 0)
    → ((k : ℕ) → k < 64 → bit_of word k ≡ ltb (get_or chunk k 0) limit) → word < 2 ^ 64 → IsBlock numbers limit at word
is_block numbers chunk limit at word same bits small =
    record { bits = λ k lt. bits k lt ∙ ap (λ n. ltb n limit) (same k lt); small = small }

pub block_found :
    (numbers : List ℕ) (limit from at word : ℕ) → IsBlock numbers limit at word → word / 2 ^ (at % 64) ≢ 0 → length numbers % 64 ≡ 0
    → at < length numbers → from ≤ at → NoneIn (λ k. ltb (get_or numbers k 0) limit) from at
    → IsFirstIn (λ k. ltb (get_or numbers k 0) limit) from (length numbers) (at + trailing_zeros w64 (word / 2 ^ (at % 64)))
block_found numbers limit from at word b some blocks there le before =
    let f = bit_found word (at % 64) b.small some in
    let lt = f.below in
    let place : 64 * (at / 64) + (at % 64 + trailing_zeros w64 (word / 2 ^ (at % 64))) ≡ at + trailing_zeros w64 (word / 2 ^ (at % 64)) = omega arith in
    record {
      from = omega (arith, le);
      below = omega (arith, lt, blocks, there);
      met = ap (λ k. ltb (get_or numbers k 0) limit) (sym place) ∙ sym (b.bits _ lt) ∙ f.met;
      before = λ y low high. elim (cases_lt y at) [
        | inl earlier ↦ before y low earlier
        | inr later ↦
            let split : 64 * (at / 64) + (at % 64 + (y - at)) ≡ y = omega (arith, later) in
            let within : at % 64 + (y - at) < 64 = omega (arith, high, lt, later) in
            ap (λ k. ltb (get_or numbers k 0) limit) (sym split) ∙ sym (b.bits (at % 64 + (y - at)) within)
            ∙ f.before (at % 64 + (y - at)) (omega arith) (omega (arith, high, later))
      ];
    }

pub block_none :
    (numbers : List ℕ) (limit from at word : ℕ) → IsBlock numbers limit at word → word / 2 ^ (at % 64) ≡ 0
    → NoneIn (λ k. ltb (get_or numbers k 0) limit) from at → NoneIn (λ k. ltb (get_or numbers k 0) limit) from (64 * (at / 64 + 1))
block_none numbers limit from at word b none before y low high =
    elim (cases_lt y at) [
      | inl earlier ↦ before y low earlier
      | inr later ↦
          let split : 64 * (at / 64) + (at % 64 + (y - at)) ≡ y = omega (arith, later) in
          let within : at % 64 + (y - at) < 64 = omega (arith, high, later) in
          ap (λ k. ltb (get_or numbers k 0) limit) (sym split) ∙ sym (b.bits (at % 64 + (y - at)) within)
          ∙ no_bit word (at % 64) none (at % 64 + (y - at)) (omega arith) within
    ]

-- as far as there are words
pub groups_below :
    (groups words : List ℕ) (limit from : ℕ) (found : Option ℕ) → IsOfWords groups words → limit < 256
    → FirstIn (λ k. ltb (get_or groups k 0) limit) from (length groups) found
    → FirstIn (λ g. ltb (least_of_group words g) limit) from (length words / 64) found
groups_below groups words limit from None is small none = λ y low high.
    let room = is.room in
    ap (λ n. ltb n limit) (sym (is.in_step y (omega (arith, high, room)))) ∙ none y low (omega (arith, high, room))
groups_below groups words limit from (Some x) is small first = record {
  from = first.from;
  below = elim (cases_lt x (length words / 64)) [
    | inl lt ↦ lt
    | inr past ↦
        let whole = is.whole in
        let is255 : get_or groups x 0 ≡ 255 = is.in_step x first.below ∙ group_past words x (omega (arith, past, whole)) in
        absurd (both_ways (ltb (get_or groups x 0) limit) (le-ltb _ _ (omega (arith, is255, small))) first.met)
  ];
  met = ap (λ n. ltb n limit) (sym (is.in_step x first.below)) ∙ first.met;
  before = λ y low high.
      let below = first.below in
      ap (λ n. ltb n limit) (sym (is.in_step y (omega (arith, high, below)))) ∙ first.before y low high;
}

pub first_same :
    (p q : ℕ → Bool) (from n m : ℕ) (found : Option ℕ) → ((x : ℕ) → p x ≡ q x) → n ≡ m → FirstIn p from n found → FirstIn q from m found
first_same p q from n m None same size none = λ y low high. sym (same y) ∙ none y low (omega (arith, high, size))
first_same p q from n m (Some x) same size first = record {
  from = first.from;
  below = let below = first.below in omega (arith, below, size);
  met = sym (same x) ∙ first.met;
  before = λ y low high. sym (same y) ∙ first.before y low high;
}

-- ---- by the LPIs' bytes

by_intid :
    (bytes : List ℕ) (a n : ℕ) → least_in (λ k. rank (get_or bytes k 0)) a n ≡ least_priority bytes (8192 + a) n
by_intid bytes a n =
    least_same (λ k. rank (get_or bytes k 0)) (λ k. rank (get_or bytes (8192 + k - 8192) 0)) a n
    (λ k from below. let place : k ≡ 8192 + k - 8192 = omega arith in ap (λ j. rank (get_or bytes j 0)) place)
    ∙ least_shift (λ x. rank (get_or bytes (x - 8192) 0)) 8192 a n

pub word_priority :
    (words bytes : List ℕ) (j : ℕ) → AreOfBytes words bytes → j < length words → get_or words j 0 ≡ least_priority bytes (8192 + 64 * j) 64
word_priority words bytes j are lt = are j lt ∙ by_intid bytes (64 * j) 64

-- a word past the last byte has none
word_or_none : (words bytes : List ℕ) (j : ℕ) → AreOfBytes words bytes → 64 * length words ≡ length bytes → get_or words j 255 ≡ least_of_word bytes j
word_or_none words bytes j are size =
    elim (cases_lt j (length words)) [
      | inl lt ↦ get_or_default words j 255 0 lt ∙ are j lt
      | inr past ↦
          get_or_past words j 255 past
          ∙ sym (least_none (λ k. rank (get_or bytes k 0)) (64 * j) 64
          (λ k from below. ap (λ b. rank b) (get_or_past bytes k 0 (omega (arith, from, past, size)))))
    ]

pub group_priority :
    (words bytes : List ℕ) (g : ℕ) → AreOfBytes words bytes → 64 * length words ≡ length bytes
    → least_of_group words g ≡ least_priority bytes (8192 + 4096 * g) 4096
group_priority words bytes g are size =
    let place : 64 * (64 * g) ≡ 4096 * g = omega arith in
    least_same (λ j. get_or words j 255) (λ j. least_of_word bytes j) (64 * g) 64 (λ j from below. word_or_none words bytes j are size)
    ∙ least_pieces (λ k. rank (get_or bytes k 0)) (64 * g) 64 ∙ ap (λ p. least_in (λ k. rank (get_or bytes k 0)) p 4096) place
    ∙ by_intid bytes (4096 * g) 4096
