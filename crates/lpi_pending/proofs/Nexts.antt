-- The next bit from one on: in its word, and else in the next word that isn't zero.
use Rattle.std.proofs.Common.{◌≡◌, ℕ, ◌+◌, ◌-◌, ◌*◌, ◌/◌, ◌%◌, ◌^◌, ◌<◌, ◌≤◌, zero, suc, Bool, true, false, List, [], ◌∷◌, ◌++◌, map, length, get_or}
use Rattle.std.proofs.Common.{take, drop, Some, None, cond, refl, sym, ap, subst, ◌∙◌, inl, inr, arith}
use Rattle.std.specs.Prelude.{position}
use Rattle.std.specs.Int.{w64, trailing_zeros}
use Rattle.std.proofs.lemmas.Bool.{cases_lt}
use Rattle.std.proofs.lemmas.List.{get_or-drop, length-drop, take_rest, append-nil, map-append}
use Rattle.std.proofs.lemmas.List.Quantifiers.{position-Some}
use Rattle.its_types.specs.Bits.{bit_of}
use Rattle.its_types.specs.declared.ids.Intid.{Intid}
use Rattle.its_types.specs.Bitmap.{word_bit}
use Rattle.lpi_pending.specs.PendingSets.{lpi_bit, lpis_of}
use Rattle.lpi_pending.specs.Searches.{NoneIn, IsFirstIn}
use Rattle.lpi_pending.specs.Summaries.{is_nonzero, is_used, IsSummary}
use Rattle.lpi_config.proofs.LowestBits.{bit_of-zero, lowest}
use Rattle.lpi_pending.proofs.Bits.{is_nonzero-true, is_nonzero-false}
use Rattle.lpi_pending.proofs.Masks.{position-None}
use Rattle.lpi_pending.proofs.Searching.{none_and}
use Rattle.lpi_pending.proofs.Sets.{those}

-- ---- ranges

pub first_after : (test : ℕ → Bool) (a b c x : ℕ) → a ≤ b → NoneIn test a b → IsFirstIn test b c x → IsFirstIn test a c x
first_after test a b c x le none first = record {
  from = omega (arith, first.from);
  below = first.below;
  met = first.met;
  before = none_and test a b x none first.before;
}

same_first : (p q : ℕ → Bool) (a b x : ℕ) → ((y : ℕ) → p y ≡ q y) → IsFirstIn p a b x → IsFirstIn q a b x
same_first p q a b x same first = record {
  from = first.from;
  below = first.below;
  met = sym (same x) ∙ first.met;
  before = λ y from below. sym (same y) ∙ first.before y from below;
}

same_none : (p q : ℕ → Bool) (a b : ℕ) → ((y : ℕ) → p y ≡ q y) → NoneIn p a b → NoneIn q a b
same_none p q a b same none y from below = sym (same y) ∙ none y from below

-- ---- words

bit_here : (words : List ℕ) (j i : ℕ) → i < 64 → word_bit words (64 * j + i) ≡ bit_of (get_or words j 0) i
bit_here words j i lt =
    let word : (64 * j + i) / 64 ≡ j = omega arith in
    let bit : (64 * j + i) % 64 ≡ i = omega arith in
    ap (λ k. bit_of (get_or words k 0) ((64 * j + i) % 64)) word ∙ ap (bit_of (get_or words j 0)) bit

-- in the word of the first bit that is asked for
pub found_here : (words : List ℕ) (from last k : ℕ) → IsFirstIn (bit_of (get_or words (from / 64) 0)) (from % 64) 64 k → 64 * (from / 64) + 64 ≤ last
    → IsFirstIn (word_bit words) from last (64 * (from / 64) + k)
found_here words from last k first within = record {
  from = omega (arith, first.from);
  below = omega (arith, first.below);
  met = bit_here words (from / 64) k first.below ∙ first.met;
  before = λ y low below.
      let split : 64 * (from / 64) + (y - 64 * (from / 64)) ≡ y = omega arith in
      ap (word_bit words) (sym split) ∙ bit_here words (from / 64) (y - 64 * (from / 64)) (omega (arith, first.below)) ∙ first.before (y - 64 * (from / 64))
      (omega arith) (omega arith);
}

none_here : (words : List ℕ) (from : ℕ) → NoneIn (bit_of (get_or words (from / 64) 0)) (from % 64) 64 → NoneIn (word_bit words) from (64 * (from / 64 + 1))
none_here words from none y low below =
    let split : 64 * (from / 64) + (y - 64 * (from / 64)) ≡ y = omega arith in
    ap (word_bit words) (sym split) ∙ bit_here words (from / 64) (y - 64 * (from / 64)) (omega arith) ∙ none (y - 64 * (from / 64)) (omega arith) (omega arith)

unused_bit : (words : List ℕ) (y : ℕ) → is_used words (y / 64) ≡ false → word_bit words y ≡ false
unused_bit words y unused = ap (λ n. bit_of n (y % 64)) (is_nonzero-false (get_or words (y / 64) 0) unused) ∙ bit_of-zero (y % 64)

-- in the next word that isn't zero
found_later : (words : List ℕ) (a n used : ℕ) → get_or words used 0 < 2 ^ 64 → IsFirstIn (is_used words) a n used → IsFirstIn (word_bit words) (64 * a) (64 * n)
    (64 * used + trailing_zeros w64 (get_or words used 0))
found_later words a n used small first =
    let low = lowest (get_or words used 0) (is_nonzero-true (get_or words used 0) first.met) small in
    record {
      from = omega (arith, first.from);
      below = omega (arith, first.below, low.below);
      met = bit_here words used (trailing_zeros w64 (get_or words used 0)) low.below ∙ low.met;
      before = λ y from below. elim (cases_lt (y / 64) used) [
        | inl lt ↦ unused_bit words y (first.before (y / 64) (omega arith) lt)
        | inr le ↦
            let here : y / 64 ≡ used = omega (arith, low.below) in
            ap (λ k. bit_of (get_or words k 0) (y % 64)) here ∙ low.before (y % 64) (omega (arith, low.below))
      ];
    }

none_later : (words : List ℕ) (a n : ℕ) → NoneIn (is_used words) a n → NoneIn (word_bit words) (64 * a) (64 * n)
none_later words a n none y from below = unused_bit words y (none (y / 64) (omega arith) (omega arith))

pub found_next : (words : List ℕ) (from n used : ℕ) → NoneIn (bit_of (get_or words (from / 64) 0)) (from % 64) 64 → get_or words used 0 < 2 ^ 64
    → IsFirstIn (is_used words) (from / 64 + 1) n used
    → IsFirstIn (word_bit words) from (64 * n) (64 * used + trailing_zeros w64 (get_or words used 0))
found_next words from n used none small first =
    first_after (word_bit words) from (64 * (from / 64 + 1)) (64 * n) (64 * used + trailing_zeros w64 (get_or words used 0)) (omega arith)
    (none_here words from none) (found_later words (from / 64 + 1) n used small first)

pub none_next : (words : List ℕ) (from n : ℕ) → NoneIn (bit_of (get_or words (from / 64) 0)) (from % 64) 64 → NoneIn (is_used words) (from / 64 + 1) n
    → NoneIn (word_bit words) from (64 * n)
none_next words from n none unused =
    none_and (word_bit words) from (64 * (from / 64 + 1)) (64 * n) (none_here words from none) (none_later words (from / 64 + 1) n unused)

-- ---- the summary, whose words are looked at one after another

pub used_word : (summary slice : List ℕ) (a skipped : ℕ) → slice ≡ summary → a ≤ length summary → Some skipped ≡ position is_nonzero
    (take (length slice - a) (drop a slice))
    → IsFirstIn (is_used summary) a (length summary) (a + skipped)
used_word summary slice a skipped same le e =
    let rest : take (length slice - a) (drop a slice) ≡ drop a summary = take_rest slice a ∙ ap (drop a) same in
    let parts = position-Some is_nonzero (drop a summary) skipped 0 (sym (e ∙ ap (position is_nonzero) rest)) in
    record {
      from = omega arith;
      below = omega (arith, parts.0, length-drop a summary);
      met = ap is_nonzero (sym (get_or-drop a summary skipped 0)) ∙ parts.1;
      before = λ y from below.
          let split : a + (y - a) ≡ y = omega arith in
          ap (λ k. is_nonzero (get_or summary k 0)) (sym split) ∙ ap is_nonzero (sym (get_or-drop a summary (y - a) 0)) ∙ parts.2 (y - a) (omega arith);
    }

pub no_used_word : (summary slice : List ℕ) (a : ℕ) → slice ≡ summary → None ≡ position is_nonzero (take (length slice - a) (drop a slice))
    → NoneIn (is_used summary) a (length summary)
no_used_word summary slice a same e y from below =
    let rest : take (length slice - a) (drop a slice) ≡ drop a summary = take_rest slice a ∙ ap (drop a) same in
    let split : a + (y - a) ≡ y = omega arith in
    ap (λ k. is_nonzero (get_or summary k 0)) (sym split) ∙ ap is_nonzero (sym (get_or-drop a summary (y - a) 0))
    ∙ position-None is_nonzero (drop a summary) (e ∙ ap (position is_nonzero) rest) (y - a) (omega (arith, length-drop a summary))

-- a bit of the summary is a word that isn't zero
pub summary_first : (summary words : List ℕ) (a x : ℕ) → IsSummary summary words → IsFirstIn (word_bit summary) a (64 * length summary) x
    → IsFirstIn (is_used words) a (length words) x
summary_first summary words a x s first =
    subst (λ (n : ℕ). IsFirstIn (is_used words) a n x) (sym s.size) (same_first (word_bit summary) (is_used words) a (64 * length summary) x s.bits first)

pub summary_none : (summary words : List ℕ) (a : ℕ) → IsSummary summary words → NoneIn (word_bit summary) a (64 * length summary)
    → NoneIn (is_used words) a (length words)
summary_none summary words a s none =
    subst (λ (n : ℕ). NoneIn (is_used words) a n) (sym s.size) (same_none (word_bit summary) (is_used words) a (64 * length summary) s.bits none)

-- ---- the LPIs of the first n bits

abbrev pub lpis_below : List ℕ → ℕ → List ℕ
lpis_below words n = those (lpi_bit words) 8192 n

those-split : (p : ℕ → Bool) (a n m k : ℕ) → k ≡ n + m → those p a k ≡ those p a n ++ those p (a + n) m
those-split p a zero m k e = let start : a ≡ a + 0 = omega arith in let count : k ≡ m = omega arith in ap (those p a) count ∙ ap (λ b. those p b m) start
those-split p a (suc n) m zero e = absurd (omega arith)
those-split p a (suc n) m (suc k) e =
    let start : a + 1 + n ≡ a + suc n = omega arith in
    let rest : those p (a + 1) k ≡ those p (a + 1) n ++ those p (a + suc n) m = those-split p (a + 1) n m k (omega arith)
    ∙ ap (λ b. those p (a + 1) n ++ those p b m) start in
    elim (p a) as (λ b. cond b (a ∷ those p (a + 1) k) (those p (a + 1) k) ≡ cond b (a ∷ those p (a + 1) n) (those p (a + 1) n) ++ those p (a + suc n) m) [
      | true ↦ ap (λ (xs : List ℕ). a ∷ xs) rest
      | false ↦ rest
    ]

those-none : (p : ℕ → Bool) (a n : ℕ) → ((y : ℕ) → a ≤ y → y < a + n → p y ≡ false) → those p a n ≡ []
those-none p a zero none = refl
those-none p a (suc n) none = rw (none a (omega arith) (omega arith)) (those-none p (a + 1) n (λ y from below. none y (omega arith) (omega arith)))

those-one : (p : ℕ → Bool) (a : ℕ) → p a ≡ true → those p a 1 ≡ a ∷ []
those-one p a is = rw is refl

bit_at_place : (words : List ℕ) (k : ℕ) → lpi_bit words (8192 + k) ≡ word_bit words k
bit_at_place words k = let place : 8192 + k - 8192 ≡ k = omega arith in ap (word_bit words) place

pub one_more : (words : List ℕ) (from last x : ℕ) → IsFirstIn (word_bit words) from last x → lpis_below words (x + 1) ≡ lpis_below words from ++ (8192 + x) ∷ []
one_more words from last x first =
    let p = lpi_bit words in
    let none : those p (8192 + from) (x - from) ≡ [] =
    those-none p (8192 + from) (x - from) (λ y low below. first.before (y - 8192) (omega arith) (let le = first.from in omega arith))
    in
    let here : 8192 + from + (x - from) ≡ 8192 + x = let le = first.from in omega arith in
    let last_one : those p (8192 + from + (x - from)) 1 ≡ (8192 + x) ∷ [] = ap (λ k. those p k 1) here ∙ those-one p (8192 + x)
    (bit_at_place words x ∙ first.met) in
    those-split p 8192 from (x + 1 - from) (x + 1) (let le = first.from in omega arith)
    ∙ ap (λ (xs : List ℕ). those p 8192 from ++ xs)
    (those-split p (8192 + from) (x - from) 1 (x + 1 - from) (let le = first.from in omega arith)
    ∙ ap (λ (xs : List ℕ). xs ++ those p (8192 + from + (x - from)) 1) none ∙ last_one)

pub no_more : (words : List ℕ) (from : ℕ) → from ≤ 64 * length words → NoneIn (word_bit words) from (64 * length words) → lpis_of words ≡ lpis_below words from
no_more words from le none =
    let p = lpi_bit words in
    those-split p 8192 from (64 * length words - from) (64 * length words) (omega arith)
    ∙ ap (λ (xs : List ℕ). those p 8192 from ++ xs) (those-none p (8192 + from) (64 * length words - from)
    (λ y low below. none (y - 8192) (omega arith) (omega arith)))
    ∙ append-nil (those p 8192 from)

-- ---- as the call has them

pub pushed : (words : List ℕ) (from last x : ℕ) (intid : Intid) (old new : List Intid) → IsFirstIn (word_bit words) from last x → intid.0 ≡ 8192 + x
    → new ≡ old ++ intid ∷ [] → map (λ (i : Intid). i.0) old ≡ lpis_below words from
    → map (λ (i : Intid). i.0) new ≡ lpis_below words (x + 1)
pushed words from last x intid old new first is more before =
    ap (map (λ (i : Intid). i.0)) more
    ∙ map-append (λ (i : Intid). i.0) old (intid ∷ [])
    ∙ ap (λ (xs : List ℕ). xs ++ intid.0 ∷ []) before
    ∙ ap (λ k. lpis_below words from ++ k ∷ []) is
    ∙ sym (one_more words from last x first)
