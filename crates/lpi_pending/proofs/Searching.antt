-- The search through a bitmap: a word, the 64 words of a group, all groups.
use Rattle.std.proofs.Common.{◌≡◌, ◌≢◌, ℕ, ◌+◌, ◌-◌, ◌*◌, ◌/◌, ◌%◌, ◌^◌, ◌<◌, ◌≤◌, Bool, false, List, length, get_or, take, drop, Some, None, bit_and, refl}
use Rattle.std.proofs.Common.{sym, ap, subst, ◌∙◌, inl, inr, arith}
use Rattle.std.specs.Prelude.{position}
use Rattle.std.specs.Int.{w64, trailing_zeros}
use Rattle.std.proofs.lemmas.List.{get_or-drop, length-drop, take_rest}
use Rattle.std.proofs.lemmas.List.Quantifiers.{position-Some}
use Rattle.std.proofs.lemmas.Bool.{cases_lt, cases_eq, and_left}
use Rattle.its_types.specs.Bits.{bit_of}
use Rattle.its_types.specs.Lpis.{is_enabled}
use Rattle.its_types.specs.Bitmap.{word_bit}
use Rattle.lpi_pending.specs.Searches.{NoneIn, IsFirstIn, count_in}
use Rattle.lpi_pending.specs.Summaries.{is_nonzero, is_used, is_ready, IsSummary}
use Rattle.lpi_pending.specs.Looks.{IsNextUsed}
use Rattle.lpi_config.proofs.LowestBits.{bit_of-zero, IsLowest, lowest}
use Rattle.lpi_pending.proofs.Bits.{bit_of-and, is_nonzero-false}
use Rattle.lpi_pending.proofs.Masks.{position-None}
use Rattle.lpi_pending.proofs.Counts.{count_in-same, count_in-less, count_in-some, count_in-add, count_in-shift}

-- ---- ranges

pub none_nowhere : (test : ℕ → Bool) (a : ℕ) → NoneIn test a a
none_nowhere test a y from below = absurd (omega arith)

pub none_and : (test : ℕ → Bool) (a b c : ℕ) → NoneIn test a b → NoneIn test b c → NoneIn test a c
none_and test a b c first second y from below =
    elim (cases_lt y b) [ inl lt ↦ first y from lt | inr le ↦ second y le below ]

-- none in each of n pieces of 64
pub none_pieces : (test : ℕ → Bool) (a n : ℕ) → ((i : ℕ) → i < n → NoneIn test (64 * (a + i)) (64 * (a + i) + 64)) → NoneIn test (64 * a) (64 * a + 64 * n)
none_pieces test a n each y from below =
    let i : ℕ = y / 64 - a in
    each i (omega arith) y (omega arith) (omega arith)

-- ---- a word

pub ready_bit :
    (words config : List ℕ) (j enabled i : ℕ) → i < 64 → bit_of enabled i ≡ is_enabled config (8192 + 64 * j + i)
    → is_ready words config (64 * j + i) ≡ bit_of (bit_and (get_or words j 0) enabled) i
ready_bit words config j enabled i lt is =
    let word : (64 * j + i) / 64 ≡ j = omega arith in
    let bit : (64 * j + i) % 64 ≡ i = omega arith in
    let place : 8192 + (64 * j + i) ≡ 8192 + 64 * j + i = omega arith in
    rw (word, bit, place, bit_of-and (get_or words j 0) enabled i, is) refl

pub first_in_word :
    (words config : List ℕ) (j ready : ℕ) → ((i : ℕ) → i < 64 → bit_of ready i ≡ is_ready words config (64 * j + i)) → ready ≢ 0 → ready < 2 ^ 64
    → IsFirstIn (is_ready words config) (64 * j) (64 * j + 64) (64 * j + trailing_zeros w64 ready)
first_in_word words config j ready bits some small =
    let low = lowest ready some small in
    record {
      from = omega arith;
      below = omega (arith, low.below);
      met = sym (bits _ low.below) ∙ low.met;
      before = λ y from below.
          let split : 64 * j + (y - 64 * j) ≡ y = omega arith in
          let within : y - 64 * j < 64 = omega (arith, low.below) in
          ap (is_ready words config) (sym split) ∙ sym (bits (y - 64 * j) within) ∙ low.before (y - 64 * j) (omega arith);
    }

pub none_in_word :
    (words config : List ℕ) (j ready : ℕ) → ((i : ℕ) → i < 64 → bit_of ready i ≡ is_ready words config (64 * j + i)) → ready ≡ 0
    → NoneIn (is_ready words config) (64 * j) (64 * j + 64)
none_in_word words config j ready bits none y from below =
    let split : 64 * j + (y - 64 * j) ≡ y = omega arith in
    let within : y - 64 * j < 64 = omega arith in
    ap (is_ready words config) (sym split) ∙ sym (bits (y - 64 * j) within) ∙ ap (λ n. bit_of n (y - 64 * j)) none ∙ bit_of-zero (y - 64 * j)

pub none_in_unused : (words config : List ℕ) (j : ℕ) → is_used words j ≡ false → NoneIn (is_ready words config) (64 * j) (64 * j + 64)
none_in_unused words config j unused y from below =
    let word : y / 64 ≡ j = omega arith in
    and_left (word_bit words y) (is_enabled config (8192 + y))
    (ap (λ k. bit_of (get_or words k 0) (y % 64)) word ∙ ap (λ n. bit_of n (y % 64)) (is_nonzero-false (get_or words j 0) unused) ∙ bit_of-zero (y % 64))

-- ---- the 64 words of a group

-- the words that aren't left have been searched
pub record Searched (words config : List ℕ) (group left : ℕ) : Type 0 where
  pub none : (i : ℕ) → i < 64 → bit_of left i ≡ false → NoneIn (is_ready words config) (64 * (64 * group + i)) (64 * (64 * group + i) + 64)

pub searched_first :
    (words config : List ℕ) (group used : ℕ) → ((k : ℕ) → k < 64 → bit_of used k ≡ is_used words (64 * group + k)) → Searched words config group used
searched_first words config group used bits =
    record { none = λ i lt unused. none_in_unused words config (64 * group + i) (sym (bits i lt) ∙ unused) }

-- one word more, which is no longer left
pub searched_next :
    (words config : List ℕ) (group left next place : ℕ) → Searched words config group left → place < 64
    → NoneIn (is_ready words config) (64 * (64 * group + place)) (64 * (64 * group + place) + 64)
    → ((i : ℕ) → i < 64 → i ≢ place → bit_of next i ≡ bit_of left i) → Searched words config group next
searched_next words config group left next place s within here others =
    record {
      none = λ i lt unused. elim (cases_eq i place) [
        | inl e ↦ subst (λ (k : ℕ). NoneIn (is_ready words config) (64 * (64 * group + k)) (64 * (64 * group + k) + 64)) (sym e) here
        | inr ne ↦ s.none i lt (sym (others i lt ne) ∙ unused)
      ];
    }

pub searched_all :
    (words config : List ℕ) (group left : ℕ) → Searched words config group left → left ≡ 0
    → NoneIn (is_ready words config) (4096 * group) (4096 * group + 4096)
searched_all words config group left s done y from below =
    none_pieces (is_ready words config) (64 * group) 64 (λ i lt. s.none i lt (ap (λ n. bit_of n i) done ∙ bit_of-zero i)) y (omega arith) (omega arith)

pub found_in_group :
    (words config : List ℕ) (group left place x : ℕ) → Searched words config group left → IsLowest left place
    → IsFirstIn (is_ready words config) (64 * (64 * group + place)) (64 * (64 * group + place) + 64) x
    → IsFirstIn (is_ready words config) (4096 * group) (4096 * group + 4096) x
found_in_group words config group left place x s low first =
    record {
      from = omega (arith, first.from);
      below = omega (arith, first.below, low.below);
      met = first.met;
      before =
          none_and (is_ready words config) (4096 * group) (64 * (64 * group + place)) x
          (λ y from below. none_pieces (is_ready words config) (64 * group) place (λ i lt. s.none i (omega (arith, low.below)) (low.before i lt)) y
          (omega arith) (omega arith))
          first.before;
    }

-- one word less to look at
pub one_less :
    (left next place : ℕ) → IsLowest left place → bit_of next place ≡ false → ((i : ℕ) → i < 64 → i ≢ place → bit_of next i ≡ bit_of left i)
    → count_in (bit_of next) 0 64 + 1 ≡ count_in (bit_of left) 0 64
one_less left next place low gone others =
    count_in-less (bit_of left) (bit_of next) 0 64 place (record { from = omega arith; below = omega (arith, low.below) }) low.met gone
    (λ y w ne. others y (omega (arith, w.below)) ne)

pub some_left : (left place : ℕ) → IsLowest left place → 0 < count_in (bit_of left) 0 64
some_left left place low = count_in-some (bit_of left) 0 64 place (record { from = omega arith; below = omega (arith, low.below) }) low.met

-- ---- all groups

-- the word of a summary says which of its 64 words are used
pub summary_word :
    (summary words : List ℕ) (group : ℕ) → IsSummary summary words → (k : ℕ) → k < 64
    → bit_of (get_or summary group 0) k ≡ is_used words (64 * group + k)
summary_word summary words group s k lt =
    let word : (64 * group + k) / 64 ≡ group = omega arith in
    let bit : (64 * group + k) % 64 ≡ k = omega arith in
    sym (ap (λ j. bit_of (get_or summary j 0) ((64 * group + k) % 64)) word ∙ ap (bit_of (get_or summary group 0)) bit) ∙ s.bits (64 * group + k)

-- words of the summary that are zero
pub unused_words :
    (summary words : List ℕ) (a n : ℕ) → IsSummary summary words → ((k : ℕ) → k < n → is_nonzero (get_or (drop a summary) k 0) ≡ false)
    → NoneIn (is_used words) (64 * a) (64 * (a + n))
unused_words summary words a n s zeros y from below =
    let group : a + (y / 64 - a) ≡ y / 64 = omega arith in
    let none : get_or summary (y / 64) 0 ≡ 0 =
    ap (λ k. get_or summary k 0) (sym group) ∙ sym (get_or-drop a summary (y / 64 - a) 0)
    ∙ is_nonzero-false (get_or (drop a summary) (y / 64 - a) 0) (zeros (y / 64 - a) (omega arith))
    in
    sym (s.bits y) ∙ ap (λ word. bit_of word (y % 64)) none ∙ bit_of-zero (y % 64)

-- a stretch of words that aren't used
pub none_in_unused_words :
    (words config : List ℕ) (low high : ℕ) → NoneIn (is_used words) low high → NoneIn (is_ready words config) (64 * low) (64 * high)
none_in_unused_words words config low high unused y from below =
    none_in_unused words config (y / 64) (unused (y / 64) (omega arith) (omega arith)) y (omega arith) (omega arith)

-- what is before a group, and in it
pub found_in_all :
    (words config : List ℕ) (a group x last : ℕ) → NoneIn (is_ready words config) 0 (4096 * a) → NoneIn (is_ready words config) (4096 * a) (4096 * group)
    → IsFirstIn (is_ready words config) (4096 * group) (4096 * group + 4096) x → 4096 * group + 4096 ≤ last
    → IsFirstIn (is_ready words config) 0 last x
found_in_all words config a group x last before skipped first within = record {
  from = omega arith;
  below = omega (arith, first.below);
  met = first.met;
  before =
      none_and (is_ready words config) 0 (4096 * a) x before
      (none_and (is_ready words config) (4096 * a) (4096 * group) x skipped first.before);
}

-- ---- how many words are looked at

pub used_so_far : (p : ℕ → Bool) (a b : ℕ) → a ≤ b → count_in p 0 a ≤ count_in p 0 b
used_so_far p a b le =
    let split : a + (b - a) ≡ b = omega arith in
    let add : count_in p 0 b ≡ count_in p 0 a + count_in p (0 + a) (b - a) = ap (count_in p 0) (sym split) ∙ count_in-add p 0 a (b - a) in
    omega (arith, add)

pub used_with_group :
    (words : List ℕ) (a group used : ℕ) → ((k : ℕ) → k < 64 → bit_of used k ≡ is_used words (64 * group + k)) → a ≤ group
    → count_in (is_used words) 0 (64 * a) + count_in (bit_of used) 0 64 ≤ count_in (is_used words) 0 (64 * (group + 1))
used_with_group words a group used bits le =
    let here : count_in (bit_of used) 0 64 ≡ count_in (is_used words) (64 * group + 0) 64 =
    count_in-same (bit_of used) (λ k. is_used words (64 * group + k)) 0 64 (λ k w. bits k (omega (arith, w.below)))
    ∙ count_in-shift (is_used words) (64 * group) 0 64
    in
    let place : 64 * group + 0 ≡ 0 + 64 * group = omega arith in
    let all : count_in (is_used words) 0 (64 * group + 64) ≡ count_in (is_used words) 0 (64 * group) + count_in (is_used words) (0 + 64 * group) 64 =
    count_in-add (is_used words) 0 (64 * group) 64 in
    let end : count_in (is_used words) 0 (64 * (group + 1)) ≡ count_in (is_used words) 0 (64 * group + 64) = let e : 64 * (group + 1) ≡ 64 * group + 64 =
    omega arith in ap (count_in (is_used words) 0) e in
    let moved : count_in (is_used words) (64 * group + 0) 64 ≡ count_in (is_used words) (0 + 64 * group) 64 = ap (λ k. count_in (is_used words) k 64) place in
    omega (arith, used_so_far (is_used words) (64 * a) (64 * group) (omega arith), here, all, end, moved)

-- ---- one turn of the search, and its end

pub next_group :
    (summary : List ℕ) (a skipped : ℕ) → Some skipped ≡ position is_nonzero (take (length summary - a) (drop a summary))
    → (a + skipped < length summary) × ((k : ℕ) → k < skipped → is_nonzero (get_or (drop a summary) k 0) ≡ false)
next_group summary a skipped e =
    let rest : take (length summary - a) (drop a summary) ≡ drop a summary = take_rest summary a in
    let parts = position-Some is_nonzero (drop a summary) skipped 0 (sym (e ∙ ap (position is_nonzero) rest)) in
    (omega (arith, parts.0, length-drop a summary), parts.2)

pub no_group :
    (summary : List ℕ) (a : ℕ) → None ≡ position is_nonzero (take (length summary - a) (drop a summary))
    → (k : ℕ) → k < length summary - a → is_nonzero (get_or (drop a summary) k 0) ≡ false
no_group summary a e k lt =
    let rest : take (length summary - a) (drop a summary) ≡ drop a summary = take_rest summary a in
    position-None is_nonzero (drop a summary) (e ∙ ap (position is_nonzero) rest) k (omega (arith, length-drop a summary))

-- no used word from a group on
pub no_used_from :
    (summary words : List ℕ) (a : ℕ) → IsSummary summary words → a ≤ length summary
    → None ≡ position is_nonzero (take (length summary - a) (drop a summary)) → NoneIn (is_used words) (64 * a) (length words)
no_used_from summary words a s le e y from below =
    unused_words summary words a (length summary - a) s (no_group summary a e) y from (omega (arith, s.size, le))

pub next_used_is :
    (summary words : List ℕ) (a skipped used : ℕ) → IsSummary summary words
    → Some skipped ≡ position is_nonzero (take (length summary - a) (drop a summary)) → used ≡ get_or summary (a + skipped) 0
    → IsNextUsed words a (a + skipped) used
next_used_is summary words a skipped used s e is =
    let next = next_group summary a skipped e in
    record {
      from = omega arith;
      below = omega (arith, next.0, s.size);
      small = omega (arith, next.0, s.small);
      bits = λ k lt. ap (λ w. bit_of w k) is ∙ summary_word summary words (a + skipped) s k lt;
      before = unused_words summary words a skipped s next.1;
    }

pub found_first :
    (words config : List ℕ) (a group used x : ℕ) → IsNextUsed words a group used → NoneIn (is_ready words config) 0 (4096 * a)
    → IsFirstIn (is_ready words config) (4096 * group) (4096 * group + 4096) x → IsFirstIn (is_ready words config) 0 (64 * length words) x
found_first words config a group used x next before first =
    found_in_all words config a group x (64 * length words) before
    (λ y from below. none_in_unused_words words config (64 * a) (64 * group) next.before y (omega arith) (omega arith)) first
    (let within = next.below in omega (arith, within))

pub none_so_far :
    (words config : List ℕ) (a group used : ℕ) → IsNextUsed words a group used → NoneIn (is_ready words config) 0 (4096 * a)
    → NoneIn (is_ready words config) (4096 * group) (4096 * group + 4096) → NoneIn (is_ready words config) 0 (4096 * (group + 1))
none_so_far words config a group used next before none y from below =
    none_and (is_ready words config) 0 (4096 * a) (4096 * group + 4096) before
    (none_and (is_ready words config) (4096 * a) (4096 * group) (4096 * group + 4096)
    (λ z low high. none_in_unused_words words config (64 * a) (64 * group) next.before z (omega arith) (omega arith)) none)
    y from (omega arith)

pub none_at_all :
    (words config : List ℕ) (a : ℕ) → NoneIn (is_used words) (64 * a) (length words) → NoneIn (is_ready words config) 0 (4096 * a)
    → NoneIn (is_ready words config) 0 (64 * length words)
none_at_all words config a unused before y from below =
    none_and (is_ready words config) 0 (4096 * a) (64 * length words) before
    (λ z low high. none_in_unused_words words config (64 * a) (length words) unused z (omega arith) high) y from below

-- what a turn costs: the groups up to the next one that is used, and the used words of that
pub cost_so_far :
    (words : List ℕ) (a group used start steps after last : ℕ) → IsNextUsed words a group used
    → steps ≤ start + a + count_in (is_used words) 0 (64 * a) → after + a ≡ steps + group + 1 → last ≤ after + count_in (bit_of used) 0 64
    → last ≤ start + (group + 1) + count_in (is_used words) 0 (64 * (group + 1))
cost_so_far words a group used start steps after last next so_far walk turn =
    omega (arith, used_with_group words a group used next.bits next.from, so_far, walk, turn, next.from)

-- no turn goes past the last group
pub cost_in_all :
    (words : List ℕ) (a start last : ℕ) → 64 * a ≤ length words → last ≤ start + a + count_in (is_used words) 0 (64 * a)
    → last ≤ start + length words / 64 + count_in (is_used words) 0 (length words)
cost_in_all words a start last le so_far = omega (arith, used_so_far (is_used words) (64 * a) (length words) le, so_far, le)

pub cost_to_end :
    (words : List ℕ) (a start steps last : ℕ) → 64 * a ≤ length words → steps ≤ start + a + count_in (is_used words) 0 (64 * a)
    → last + a ≡ steps + length words / 64 → last ≤ start + length words / 64 + count_in (is_used words) 0 (length words)
cost_to_end words a start steps last le so_far walk = omega (arith, used_so_far (is_used words) (64 * a) (length words) le, so_far, le, walk)

-- so it stops at the group of what is found
pub cost_to_found :
    (words config : List ℕ) (group start last first : ℕ) → IsFirstIn (is_ready words config) (4096 * group) (4096 * group + 4096) first
    → last ≤ start + (group + 1) + count_in (is_used words) 0 (64 * (group + 1))
    → last ≤ start + (first / 4096 + 1) + count_in (is_used words) 0 (64 * (first / 4096 + 1))
cost_to_found words config group start last first is cost =
    let low = is.from in
    let high = is.below in
    let same : group ≡ first / 4096 = omega (arith, low, high) in
    subst (λ (g : ℕ). last ≤ start + (g + 1) + count_in (is_used words) 0 (64 * (g + 1))) same cost
