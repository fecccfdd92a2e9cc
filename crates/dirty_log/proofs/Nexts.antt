-- The next bit from one on: in its word, and else in the next word that isn't zero.
use Rattle.std.proofs.Common.{◌≡◌, ◌≢◌, ℕ, ◌+◌, ◌-◌, ◌*◌, ◌/◌, ◌%◌, ◌^◌, ◌<◌, ◌≤◌, Bool, true, false, not, List, length, get_or}
use Rattle.std.proofs.Common.{take, drop, Some, None, eqb, refl, sym, ap, subst, ◌∙◌, inl, inr, arith}
use Rattle.std.specs.Prelude.{position}
use Rattle.std.specs.Int.{w64, trailing_zeros, bit_at}
use Rattle.std.specs.List.{prefix_len}
use Rattle.std.proofs.Math.Nat.{div-le_self, div-div-eq-div-mul}
use Rattle.std.proofs.lemmas.Nat.{pow-add}
use Rattle.std.proofs.lemmas.Nat.Bits.{bit_at_above, bit_at-zero, bit_at-trailing_zeros}
use Rattle.std.proofs.lemmas.Bool.{cases_lt, both_ways, eq-eqb, eqb-true, not-false, not-true, ne_eqb, lt-ltb, cond-true}
use Rattle.std.proofs.lemmas.List.{get_or-drop, length-drop, take_rest}
use Rattle.std.proofs.lemmas.List.Quantifiers.{position-Some}
use Rattle.std.proofs.lemmas.List.Sums.{prefix_len_passes}
use Rattle.its_types.specs.Bits.{bit_of}
use Rattle.its_types.specs.Bitmap.{word_bit}
use Rattle.dirty_log.specs.Bits.{NoneIn, IsFirstIn, is_nonzero, is_used, IsSummary}

pub bit_of-zero : (i : ℕ) → bit_of 0 i ≡ false
bit_of-zero i = ap (λ n. eqb n 1) (bit_at-zero i)

bit_of-one : (n i : ℕ) → bit_at n i ≡ 1 → bit_of n i ≡ true
bit_of-one n i e = eq-eqb (bit_at n i) 1 e

-- the lowest bit of a word that isn't zero
pub record IsLowest (word i : ℕ) : Type 0 where
  pub below : i < 64
  pub met : bit_of word i ≡ true
  pub before : (j : ℕ) → j < i → bit_of word j ≡ false

pub lowest : (word : ℕ) → word ≢ 0 → word < 2 ^ 64 → IsLowest word (trailing_zeros w64 word)
lowest word some small =
    let pos : 0 < word = omega (arith, some) in
    let parts = bit_at-trailing_zeros w64 word pos small in
    record {
      below = parts.0;
      met = bit_of-one word _ parts.1;
      before = λ j lt. ap (λ n. eqb n 1) (parts.2 j lt);
    }

pub is_nonzero-true : (word : ℕ) → is_nonzero word ≡ true → word ≢ 0
is_nonzero-true word e zero_is = both_ways (is_nonzero word) (rw zero_is refl) e

pub is_nonzero-false : (word : ℕ) → is_nonzero word ≡ false → word ≡ 0
is_nonzero-false word e = eqb-true word 0 (not-false (eqb word 0) e)

pub nonzero_is : (word : ℕ) → word ≢ 0 → is_nonzero word ≡ true
nonzero_is word ne = rw (ne_eqb word 0 ne) refl

-- no word of a list is nonzero
pub position-None : (p : ℕ → Bool) (xs : List ℕ) → None ≡ position p xs → (k : ℕ) → k < length xs → p (get_or xs k 0) ≡ false
position-None p xs e k lt =
    elim (cases_lt (prefix_len (λ x. not (p x)) xs) (length xs)) [
      | inl below ↦ absurd (let some : None ≡ Some (prefix_len (λ x. not (p x)) xs) = e ∙ cond-true _ _ _ (lt-ltb _ _ below) in cc)
      | inr all ↦ not-true (p (get_or xs k 0)) (prefix_len_passes (λ x. not (p x)) xs k 0 (omega arith))
    ]

pub none_and : (test : ℕ → Bool) (a b c : ℕ) → NoneIn test a b → NoneIn test b c → NoneIn test a c
none_and test a b c first second y from below =
    elim (cases_lt y b) [ inl lt ↦ first y from lt | inr le ↦ second y le below ]

-- ---- a word

shifted_bit : (word s i : ℕ) → bit_of (word / 2 ^ s) i ≡ bit_of word (s + i)
shifted_bit word s i =
    let split : word / 2 ^ (s + i) ≡ word / 2 ^ s / 2 ^ i = ap (λ d. word / d) (pow-add 2 s i) ∙ sym (div-div-eq-div-mul word (2 ^ s) (2 ^ i)) in
    ap (λ q. eqb (q % 2) 1) (sym split)

bit_within : (word i : ℕ) → word < 2 ^ 64 → bit_of word i ≡ true → i < 64
bit_within word i small is =
    elim (cases_lt i 64) [
      | inl lt ↦ lt
      | inr past ↦ absurd (both_ways (bit_of word i) (ap (λ n. eqb n 1) (bit_at_above word 64 i small past)) is)
    ]

pub bit_found : (word s : ℕ) → word < 2 ^ 64 → word / 2 ^ s ≢ 0 → IsFirstIn (bit_of word) s 64 (s + trailing_zeros w64 (word / 2 ^ s))
bit_found word s small some =
    let fits : word / 2 ^ s < 2 ^ 64 = let le = div-le_self word (2 ^ s) in omega (arith, le) in
    let low = lowest (word / 2 ^ s) some fits in
    let met : bit_of word (s + trailing_zeros w64 (word / 2 ^ s)) ≡ true = sym (shifted_bit word s (trailing_zeros w64 (word / 2 ^ s))) ∙ low.met in
    record {
      from = omega arith;
      below = bit_within word (s + trailing_zeros w64 (word / 2 ^ s)) small met;
      met = met;
      before = λ y from below.
          let split : s + (y - s) ≡ y = omega arith in
          ap (bit_of word) (sym split) ∙ sym (shifted_bit word s (y - s)) ∙ low.before (y - s) (omega arith);
    }

pub no_bit : (word s : ℕ) → word / 2 ^ s ≡ 0 → NoneIn (bit_of word) s 64
no_bit word s none y from below =
    let split : s + (y - s) ≡ y = omega arith in
    ap (bit_of word) (sym split) ∙ sym (shifted_bit word s (y - s)) ∙ ap (λ n. bit_of n (y - s)) none ∙ bit_of-zero (y - s)

-- ---- ranges

pub first_after : (test : ℕ → Bool) (a b c x : ℕ) → a ≤ b → NoneIn test a b → IsFirstIn test b c x → IsFirstIn test a c x
first_after test a b c x le none first = record {
  from = omega (arith, first.from);
  below = first.below;
  met = first.met;
  before = none_and test a b x none first.before;
}

same_first : (p q : ℕ → Bool) (a b x : ℕ) → ((y : ℕ) → p y ≡ q y) → IsFirstIn p a b x → IsFirstIn q a b x
same_first p q a b x same first = record {
  from = first.from;
  below = first.below;
  met = sym (same x) ∙ first.met;
  before = λ y from below. sym (same y) ∙ first.before y from below;
}

same_none : (p q : ℕ → Bool) (a b : ℕ) → ((y : ℕ) → p y ≡ q y) → NoneIn p a b → NoneIn q a b
same_none p q a b same none y from below = sym (same y) ∙ none y from below

-- ---- words

bit_here : (words : List ℕ) (j i : ℕ) → i < 64 → word_bit words (64 * j + i) ≡ bit_of (get_or words j 0) i
bit_here words j i lt =
    let word : (64 * j + i) / 64 ≡ j = omega arith in
    let bit : (64 * j + i) % 64 ≡ i = omega arith in
    ap (λ k. bit_of (get_or words k 0) ((64 * j + i) % 64)) word ∙ ap (bit_of (get_or words j 0)) bit

-- in the word of the first bit that is asked for
pub found_here : (words : List ℕ) (from last k : ℕ) → IsFirstIn (bit_of (get_or words (from / 64) 0)) (from % 64) 64 k → 64 * (from / 64) + 64 ≤ last
    → IsFirstIn (word_bit words) from last (64 * (from / 64) + k)
found_here words from last k first within = record {
  from = omega (arith, first.from);
  below = omega (arith, first.below);
  met = bit_here words (from / 64) k first.below ∙ first.met;
  before = λ y low below.
      let split : 64 * (from / 64) + (y - 64 * (from / 64)) ≡ y = omega arith in
      ap (word_bit words) (sym split) ∙ bit_here words (from / 64) (y - 64 * (from / 64)) (omega (arith, first.below)) ∙ first.before (y - 64 * (from / 64))
      (omega arith) (omega arith);
}

none_here : (words : List ℕ) (from : ℕ) → NoneIn (bit_of (get_or words (from / 64) 0)) (from % 64) 64 → NoneIn (word_bit words) from (64 * (from / 64 + 1))
none_here words from none y low below =
    let split : 64 * (from / 64) + (y - 64 * (from / 64)) ≡ y = omega arith in
    ap (word_bit words) (sym split) ∙ bit_here words (from / 64) (y - 64 * (from / 64)) (omega arith) ∙ none (y - 64 * (from / 64)) (omega arith) (omega arith)

unused_bit : (words : List ℕ) (y : ℕ) → is_used words (y / 64) ≡ false → word_bit words y ≡ false
unused_bit words y unused = ap (λ n. bit_of n (y % 64)) (is_nonzero-false (get_or words (y / 64) 0) unused) ∙ bit_of-zero (y % 64)

-- in the next word that isn't zero
found_later : (words : List ℕ) (a n used : ℕ) → get_or words used 0 < 2 ^ 64 → IsFirstIn (is_used words) a n used → IsFirstIn (word_bit words) (64 * a) (64 * n)
    (64 * used + trailing_zeros w64 (get_or words used 0))
found_later words a n used small first =
    let low = lowest (get_or words used 0) (is_nonzero-true (get_or words used 0) first.met) small in
    record {
      from = omega (arith, first.from);
      below = omega (arith, first.below, low.below);
      met = bit_here words used (trailing_zeros w64 (get_or words used 0)) low.below ∙ low.met;
      before = λ y from below. elim (cases_lt (y / 64) used) [
        | inl lt ↦ unused_bit words y (first.before (y / 64) (omega arith) lt)
        | inr le ↦
            let here : y / 64 ≡ used = omega (arith, low.below) in
            ap (λ k. bit_of (get_or words k 0) (y % 64)) here ∙ low.before (y % 64) (omega (arith, low.below))
      ];
    }

none_later : (words : List ℕ) (a n : ℕ) → NoneIn (is_used words) a n → NoneIn (word_bit words) (64 * a) (64 * n)
none_later words a n none y from below = unused_bit words y (none (y / 64) (omega arith) (omega arith))

pub found_next : (words : List ℕ) (from n used : ℕ) → NoneIn (bit_of (get_or words (from / 64) 0)) (from % 64) 64 → get_or words used 0 < 2 ^ 64
    → IsFirstIn (is_used words) (from / 64 + 1) n used
    → IsFirstIn (word_bit words) from (64 * n) (64 * used + trailing_zeros w64 (get_or words used 0))
found_next words from n used none small first =
    first_after (word_bit words) from (64 * (from / 64 + 1)) (64 * n) (64 * used + trailing_zeros w64 (get_or words used 0)) (omega arith)
    (none_here words from none) (found_later words (from / 64 + 1) n used small first)

pub none_next : (words : List ℕ) (from n : ℕ) → NoneIn (bit_of (get_or words (from / 64) 0)) (from % 64) 64 → NoneIn (is_used words) (from / 64 + 1) n
    → NoneIn (word_bit words) from (64 * n)
none_next words from n none unused =
    none_and (word_bit words) from (64 * (from / 64 + 1)) (64 * n) (none_here words from none) (none_later words (from / 64 + 1) n unused)

-- ---- the summary, whose words are looked at one after another

pub used_word : (summary slice : List ℕ) (a skipped : ℕ) → slice ≡ summary → a ≤ length summary → Some skipped ≡ position is_nonzero
    (take (length slice - a) (drop a slice))
    → IsFirstIn (is_used summary) a (length summary) (a + skipped)
used_word summary slice a skipped same le e =
    let rest : take (length slice - a) (drop a slice) ≡ drop a summary = take_rest slice a ∙ ap (drop a) same in
    let parts = position-Some is_nonzero (drop a summary) skipped 0 (sym (e ∙ ap (position is_nonzero) rest)) in
    record {
      from = omega arith;
      below = omega (arith, parts.0, length-drop a summary);
      met = ap is_nonzero (sym (get_or-drop a summary skipped 0)) ∙ parts.1;
      before = λ y from below.
          let split : a + (y - a) ≡ y = omega arith in
          ap (λ k. is_nonzero (get_or summary k 0)) (sym split) ∙ ap is_nonzero (sym (get_or-drop a summary (y - a) 0)) ∙ parts.2 (y - a) (omega arith);
    }

pub no_used_word : (summary slice : List ℕ) (a : ℕ) → slice ≡ summary → None ≡ position is_nonzero (take (length slice - a) (drop a slice))
    → NoneIn (is_used summary) a (length summary)
no_used_word summary slice a same e y from below =
    let rest : take (length slice - a) (drop a slice) ≡ drop a summary = take_rest slice a ∙ ap (drop a) same in
    let split : a + (y - a) ≡ y = omega arith in
    ap (λ k. is_nonzero (get_or summary k 0)) (sym split) ∙ ap is_nonzero (sym (get_or-drop a summary (y - a) 0))
    ∙ position-None is_nonzero (drop a summary) (e ∙ ap (position is_nonzero) rest) (y - a) (omega (arith, length-drop a summary))

-- a bit of the summary is a word that isn't zero
pub summary_first : (summary words : List ℕ) (a x : ℕ) → IsSummary summary words → IsFirstIn (word_bit summary) a (64 * length summary) x
    → IsFirstIn (is_used words) a (length words) x
summary_first summary words a x s first =
    subst (λ (n : ℕ). IsFirstIn (is_used words) a n x) (sym s.size) (same_first (word_bit summary) (is_used words) a (64 * length summary) x s.bits first)

pub summary_none : (summary words : List ℕ) (a : ℕ) → IsSummary summary words → NoneIn (word_bit summary) a (64 * length summary)
    → NoneIn (is_used words) a (length words)
summary_none summary words a s none =
    subst (λ (n : ℕ). NoneIn (is_used words) a n) (sym s.size) (same_none (word_bit summary) (is_used words) a (64 * length summary) s.bits none)
