-- The first by priority of the bits looked at, and of all.
use Rattle.std.proofs.Common.{◌≡◌, ◌≢◌, ℕ, zero, ◌+◌, ◌-◌, ◌*◌, ◌/◌, ◌%◌, ◌<◌, ◌≤◌, ◌^◌, Bool, true, false, cond, List, length, get_or, drop, Some}
use Rattle.std.proofs.Common.{None, refl}
use Rattle.std.proofs.Common.{sym, ap, subst, ◌∙◌, inl, inr, arith}
use Rattle.std.specs.Prelude.{◌&&◌, nat_lt, MatchOption, Option}
use Rattle.std.proofs.lemmas.Bool.{cases_eq, cases_lt, cases_Bool, both_ways, and_parts, lt-ltb, ltb-true, ltb-false, cond-true}
use Rattle.std.proofs.lemmas.Nat.Bits.{and_high}
use Rattle.its_types.specs.Bits.{bit_of}
use Rattle.its_types.specs.Bitmap.{word_bit}
use Rattle.its_types.specs.Ranges.{lpi_count}
use Rattle.its_types.specs.Lpis.{config_byte, is_enabled, priority_of}
use Rattle.lpi_config.specs.Bounds.{rank, least_priority}
use Rattle.lpi_config.proofs.LeastIn.{least_below}
use Rattle.lpi_pending.specs.Searches.{NoneIn, IsFirstIn, count_in}
use Rattle.lpi_pending.specs.Summaries.{is_nonzero, is_used, is_ready, IsSummary}
use Rattle.lpi_pending.specs.Looks.{IsNextWord, IsNextLpi}
use Rattle.lpi_pending.specs.Priorities.{IsBest, IsFound, NoneBelow, IsNextGroup, is_left, is_left_of_group, is_below, priorities_before}
use Rattle.lpi_pending.specs.PendingSets.{lpis_of, busy_words, summary_words}
use Rattle.lpi_pending.specs.declared.best.Best.{Best}
use Rattle.lpi_pending.proofs.Firsts.{used_words}
use Rattle.lpi_pending.proofs.Counts.{count_in-le, count_in-add, count_in-some}
use Rattle.lpi_pending.proofs.Searching.{none_in_unused, unused_words, none_in_unused_words, used_so_far}
use Rattle.lpi_pending.proofs.Sets.{those}

-- ---- bit by bit

-- no bit is before the first
pub best_first : (words config : List ℕ) (mask : ℕ) → IsBest words config mask 0 (record { at = None; limit = mask })
best_first words config mask = record { least = λ y below. absurd (omega arith); found = refl }

found_past : (words config : List ℕ) (mask n m priority : ℕ) (at : Option ℕ) (P : Type 0) → n ≤ m
    → MatchOption at P (λ x. IsFound words config mask n priority x) → MatchOption at P (λ x. IsFound words config mask m priority x)
found_past words config mask n m priority None P le found = found
found_past words config mask n m priority (Some x) P le found =
    record { within = omega (arith, found.within); ready = found.ready; same = found.same; unmasked = found.unmasked; before = found.before }

-- bits that don't come before what was found
pub best_past : (words config : List ℕ) (mask n m : ℕ) (best : Best) → n ≤ m → NoneBelow words config best.limit n m → IsBest words config mask n best
    → IsBest words config mask m best
best_past words config mask n m best le none is = record {
  least = λ y below ready. elim (cases_lt y n) [
    | inl lt ↦ is.least y lt ready
    | inr past ↦ none y past below ready
  ];
  found = found_past words config mask n m best.limit best.at (best.limit ≡ mask) le is.found;
}

pub none_below : (words config : List ℕ) (limit n m : ℕ) → NoneIn (is_ready words config) n m → NoneBelow words config limit n m
none_below words config limit n m none y from below ready = absurd (both_ways (is_ready words config y) (none y from below) ready)

pub none_below_and : (words config : List ℕ) (limit a b c : ℕ) → NoneBelow words config limit a b → NoneBelow words config limit b c
    → NoneBelow words config limit a c
none_below_and words config limit a b c first second y from below =
    elim (cases_lt y b) [ inl lt ↦ first y from lt | inr past ↦ second y past below ]

-- below the mask, whatever was found
limit_below : (words config : List ℕ) (mask n : ℕ) (at : Option ℕ) (limit : ℕ) → MatchOption at (limit ≡ mask) (λ x. IsFound words config mask n limit x)
    → limit ≤ mask
limit_below words config mask n None limit found = omega arith
limit_below words config mask n (Some x) limit found = omega (arith, found.unmasked)

at_or_before : (y n : ℕ) → y < n + 1 → y ≢ n → y < n
at_or_before y n lt ne = omega (arith, ne)

-- a bit that is ready, and comes before what was found
best_with : (words config : List ℕ) (mask n : ℕ) (best : Best) → is_ready words config n ≡ true → priority_of config (8192 + n) < best.limit
    → IsBest words config mask n best → IsBest words config mask (n + 1) (record { at = Some n; limit = priority_of config (8192 + n) })
best_with words config mask n best ready lt is =
    let masked = limit_below words config mask n best.at best.limit is.found in
    record {
      least = λ y below r. elim (cases_eq y n) [
        | inl same ↦ rw same (omega arith)
        | inr ne ↦ let le = is.least y (at_or_before y n below ne) r in omega (arith, le, lt)
      ];
      found = record {
        within = omega arith;
        ready = ready;
        same = refl;
        unmasked = omega (arith, lt, masked);
        before = λ y below r. let le = is.least y below r in omega (arith, le, lt);
      };
    }

-- there are no more priorities than multiples of 4
pub priorities_less : (config : List ℕ) (x limit : ℕ) → priority_of config x < limit
    → priorities_before (priority_of config x) + 1 ≤ priorities_before limit
priorities_less config x limit lt =
    let fours : priority_of config x ≡ get_or config (x - 8192) 0 / 4 % 64 * 4 = and_high (get_or config (x - 8192) 0) 6 2 in
    omega (arith, fours, lt)

-- ---- a word

-- bit by bit which LPIs of a word are ready
abbrev pub ReadyWord : List ℕ → List ℕ → ℕ → ℕ → Type 0
ReadyWord words config j ready = (i : ℕ) → i < 64 → bit_of ready i ≡ is_ready words config (64 * j + i)

second_false : (a b : Bool) → a ≡ true → (a && b) ≡ false → b ≡ false
second_false true b is both = both
second_false false b is both = absurd (both_ways false refl is)

none_left : (words config : List ℕ) (limit j ready from to : ℕ) → to ≤ 64 → ReadyWord words config j ready → NoneIn (is_left config limit j ready) from to
    → NoneBelow words config limit (64 * j + from) (64 * j + to)
none_left words config limit j ready from to le bits none y low high r =
    let split : 64 * j + (y - 64 * j) ≡ y = omega arith in
    let place : 8192 + 64 * j + (y - 64 * j) ≡ 8192 + y = omega arith in
    let within : y - 64 * j < 64 = omega arith in
    let is : bit_of ready (y - 64 * j) ≡ true = bits (y - 64 * j) within ∙ ap (is_ready words config) split ∙ r in
    let not_below : nat_lt (priority_of config (8192 + 64 * j + (y - 64 * j))) limit ≡ false =
    second_false (bit_of ready (y - 64 * j)) (nat_lt (priority_of config (8192 + 64 * j + (y - 64 * j))) limit) is
    (none (y - 64 * j) (omega arith) (omega arith)) in
    let same : priority_of config (8192 + 64 * j + (y - 64 * j)) ≡ priority_of config (8192 + y) = ap (priority_of config) place in
    let le' = ltb-false (priority_of config (8192 + 64 * j + (y - 64 * j))) limit not_below in
    omega (arith, le', same)

pub left_lt : (config : List ℕ) (limit j ready bit : ℕ) → is_left config limit j ready bit ≡ true → priority_of config (8192 + (64 * j + bit)) < limit
left_lt config limit j ready bit met =
    let place : 8192 + 64 * j + bit ≡ 8192 + (64 * j + bit) = omega arith in
    ltb-true (priority_of config (8192 + (64 * j + bit))) limit
    (ap (λ x. nat_lt (priority_of config x) limit) (sym place)
    ∙ (and_parts (bit_of ready bit) (nat_lt (priority_of config (8192 + 64 * j + bit)) limit) met).1)

-- the lowest bit that is left
pub next_lpi_is : (words config : List ℕ) (limit j ready from bit priority : ℕ) → ReadyWord words config j ready
    → IsFirstIn (is_left config limit j ready) from 64 bit → priority ≡ priority_of config (8192 + (64 * j + bit))
    → IsNextLpi words config limit j from bit priority
next_lpi_is words config limit j ready from bit priority bits first same =
    let lt = first.below in
    let less = left_lt config limit j ready bit first.met in
    let met = and_parts (bit_of ready bit) (nat_lt (priority_of config (8192 + 64 * j + bit)) limit) first.met in
    record {
      from = first.from;
      below = lt;
      ready = sym (bits bit lt) ∙ met.0;
      same = same;
      less = omega (arith, less, same);
      before = none_left words config limit j ready from bit (omega (arith, lt)) bits first.before;
    }

pub no_next_lpi : (words config : List ℕ) (limit j ready from : ℕ) → ReadyWord words config j ready → NoneIn (is_left config limit j ready) from 64
    → NoneBelow words config limit (64 * j + from) (64 * j + 64)
no_next_lpi words config limit j ready from bits none = none_left words config limit j ready from 64 (omega arith) bits none

-- with an LPI that comes before those so far
pub best_next : (words config : List ℕ) (mask j from bit priority : ℕ) (best : Best) → IsNextLpi words config best.limit j from bit priority
    → IsBest words config mask (64 * j + from) best
    → IsBest words config mask (64 * j + (bit + 1)) (record { at = Some (64 * j + bit); limit = priority })
best_next words config mask j from bit priority best next is =
    let place : 64 * j + bit + 1 ≡ 64 * j + (bit + 1) = omega arith in
    let same = next.same in
    let less = next.less in
    let lt : priority_of config (8192 + (64 * j + bit)) < best.limit = omega (arith, same, less) in
    subst (λ (n : ℕ). IsBest words config mask n (record { at = Some (64 * j + bit); limit = priority })) place
    (subst (λ (p : ℕ). IsBest words config mask (64 * j + bit + 1) (record { at = Some (64 * j + bit); limit = p })) (sym same)
    (best_with words config mask (64 * j + bit) best next.ready lt
    (best_past words config mask (64 * j + from) (64 * j + bit) best (let le = next.from in omega (arith, le)) next.before is)))

pub best_end : (words config : List ℕ) (mask j from : ℕ) (best : Best) → from ≤ 64 → NoneBelow words config best.limit (64 * j + from) (64 * j + 64)
    → IsBest words config mask (64 * j + from) best → IsBest words config mask (64 * (j + 1)) best
best_end words config mask j from best le none is =
    let place : 64 * j + 64 ≡ 64 * (j + 1) = omega arith in
    subst (λ (n : ℕ). IsBest words config mask n best) place
    (best_past words config mask (64 * j + from) (64 * j + 64) best (omega (arith, le)) none is)

-- one priority less is left
pub priorities_left : (words config : List ℕ) (limit j from bit priority : ℕ) → IsNextLpi words config limit j from bit priority
    → priorities_before priority + 1 ≤ priorities_before limit
priorities_left words config limit j from bit priority next =
    let same = next.same in
    let less = next.less in
    let fewer = priorities_less config (8192 + (64 * j + bit)) limit (omega (arith, same, less)) in
    omega (arith, fewer, same)

count_more : (p : ℕ → Bool) (n m : ℕ) → n ≤ m → count_in p 0 m ≡ count_in p 0 n + count_in p n (m - n)
count_more p n m le =
    let split : n + (m - n) ≡ m = omega arith in
    let place : 0 + n ≡ n = omega arith in
    ap (count_in p 0) (sym split) ∙ count_in-add p 0 n (m - n) ∙ ap (λ k. count_in p 0 n + count_in p k (m - n)) place

-- ---- the 64 words of a group

-- an LPI that is enabled comes no earlier than the least priority
none_by_least : (words config : List ℕ) (limit a n : ℕ) → nat_lt (least_priority config (8192 + a) n) limit ≡ false
    → NoneBelow words config limit a (a + n)
none_by_least words config limit a n least y low high r =
    let on : is_enabled config (8192 + y) ≡ true = (and_parts (word_bit words y) (is_enabled config (8192 + y)) r).1 in
    let same : rank (config_byte config (8192 + y)) ≡ priority_of config (8192 + y) =
    cond-true (is_enabled config (8192 + y)) (priority_of config (8192 + y)) 255 on in
    let bound = least_below (λ x. rank (config_byte config x)) (8192 + a) n (8192 + y) (omega arith) (omega arith) in
    let le = ltb-false (least_priority config (8192 + a) n) limit least in
    omega (arith, same, bound, le)

-- bit by bit the words that are used
abbrev pub UsedWords : List ℕ → ℕ → ℕ → Type 0
UsedWords words group used = (i : ℕ) → i < 64 → bit_of used i ≡ is_used words (64 * group + i)

none_in_left : (words config : List ℕ) (limit group used i : ℕ) → i < 64 → UsedWords words group used
    → is_left_of_group config limit group used i ≡ false → NoneBelow words config limit (64 * (64 * group + i)) (64 * (64 * group + i) + 64)
none_in_left words config limit group used i lt bits none =
    elim (cases_Bool (bit_of used i)) [
      | inl is ↦
          none_by_least words config limit (64 * (64 * group + i)) 64
          (second_false (bit_of used i) (nat_lt (least_priority config (8192 + 64 * (64 * group + i)) 64) limit) is none)
      | inr unused ↦
          none_below words config limit (64 * (64 * group + i)) (64 * (64 * group + i) + 64)
          (none_in_unused words config (64 * group + i) (sym (bits i lt) ∙ unused))
    ]

none_in_lefts : (words config : List ℕ) (limit group used from to : ℕ) → to ≤ 64 → UsedWords words group used
    → NoneIn (is_left_of_group config limit group used) from to → NoneBelow words config limit (64 * (64 * group + from)) (64 * (64 * group + to))
none_in_lefts words config limit group used from to le bits none y low high =
    none_in_left words config limit group used (y / 64 - 64 * group) (omega arith) bits
    (none (y / 64 - 64 * group) (omega arith) (omega arith)) y (omega arith) (omega arith)

-- in its group, a word that is left
pub next_word_is : (words config : List ℕ) (limit from at bit used : ℕ) → UsedWords words (at / 64) used
    → IsFirstIn (is_left_of_group config limit (at / 64) used) (at % 64) 64 bit → from ≤ at → 64 * (at / 64) + 64 ≤ length words → length words ≤ 65536
    → NoneBelow words config limit (64 * from) (64 * at) → IsNextWord words config limit from (64 * (at / 64) + bit)
next_word_is words config limit from at bit used bits first le within small before =
    let low = first.from in
    let lt = first.below in
    record {
      from = omega (arith, le, low);
      below = omega (arith, within, lt);
      small = omega (arith, within, small, lt);
      met = ap (λ b. b && nat_lt (least_priority config (8192 + 64 * (64 * (at / 64) + bit)) 64) limit) (sym (bits bit lt)) ∙ first.met;
      before = none_below_and words config limit (64 * from) (64 * at) (64 * (64 * (at / 64) + bit)) before
          (λ y from' below. none_in_lefts words config limit (at / 64) used (at % 64) bit (omega (arith, lt)) bits first.before y (omega (arith, from')) below);
    }

-- none is left in its group
pub none_in_rest : (words config : List ℕ) (limit from at used : ℕ) → UsedWords words (at / 64) used
    → NoneIn (is_left_of_group config limit (at / 64) used) (at % 64) 64 → NoneBelow words config limit (64 * from) (64 * at)
    → NoneBelow words config limit (64 * from) (4096 * (at / 64 + 1))
none_in_rest words config limit from at used bits none before =
    none_below_and words config limit (64 * from) (64 * at) (4096 * (at / 64 + 1)) before
    (λ y low high. none_in_lefts words config limit (at / 64) used (at % 64) 64 (omega arith) bits none y (omega (arith, low)) (omega (arith, high)))

-- nor in those up to another one
pub none_to_group : (words config : List ℕ) (limit from group next : ℕ) → NoneBelow words config limit (64 * from) (4096 * group)
    → IsNextGroup words config limit group next → NoneBelow words config limit (64 * from) (64 * (64 * next))
none_to_group words config limit from group next before is y low high =
    none_below_and words config limit (64 * from) (4096 * group) (4096 * next) before is.before y low (omega (arith, high))

-- one used word more
one_more : (p : ℕ → Bool) (from at : ℕ) → from ≤ at → p at ≡ true → count_in p 0 from + 1 ≤ count_in p 0 (at + 1)
one_more p from at le met =
    let more = count_more p from (at + 1) (omega (arith, le)) in
    let one = count_in-some p from (at + 1 - from) at (record { from = le; below = omega (arith, le) }) met in
    omega (arith, more, one)

-- ---- all groups

-- groups that have no enabled LPI before a limit
pub none_in_groups : (words config : List ℕ) (limit from to : ℕ)
    → NoneIn (λ g. nat_lt (least_priority config (8192 + 4096 * g) 4096) limit) from to → NoneBelow words config limit (4096 * from) (4096 * to)
none_in_groups words config limit from to none y low high =
    none_by_least words config limit (4096 * (y / 4096)) 4096 (none (y / 4096) (omega arith) (omega arith)) y (omega arith) (omega arith)

-- ---- and after them

-- groups whose words of the summary are zero
pub none_in_unused_groups : (summary words config : List ℕ) (limit from a n : ℕ) → IsSummary summary words
    → ((k : ℕ) → k < n → is_nonzero (get_or (drop a summary) k 0) ≡ false) → NoneBelow words config limit (4096 * from) (4096 * a)
    → NoneBelow words config limit (4096 * from) (4096 * (a + n))
none_in_unused_groups summary words config limit from a n s zeros before =
    none_below_and words config limit (4096 * from) (4096 * a) (4096 * (a + n)) before
    (λ y low high. none_below words config limit (64 * (64 * a)) (64 * (64 * (a + n)))
    (none_in_unused_words words config (64 * a) (64 * (a + n)) (unused_words summary words a n s zeros)) y (omega (arith, low)) (omega (arith, high)))

-- and no used word after them
pub none_after : (words config : List ℕ) (limit from a : ℕ) → NoneIn (is_used words) (64 * a) (length words)
    → NoneBelow words config limit (4096 * from) (4096 * a) → NoneBelow words config limit (4096 * from) (64 * length words)
none_after words config limit from a unused before =
    none_below_and words config limit (4096 * from) (4096 * a) (64 * length words) before
    (λ y low high. none_below words config limit (64 * (64 * a)) (64 * length words)
    (none_in_unused_words words config (64 * a) (length words) unused) y (omega (arith, low)) high)

-- and then groups that have no enabled LPI before the limit
pub none_up_to : (words config : List ℕ) (limit from used to : ℕ) → NoneBelow words config limit (4096 * from) (4096 * used)
    → NoneIn (λ g. nat_lt (least_priority config (8192 + 4096 * g) 4096) limit) used to → NoneBelow words config limit (4096 * from) (4096 * to)
none_up_to words config limit from used to before none =
    none_below_and words config limit (4096 * from) (4096 * used) (4096 * to) before (none_in_groups words config limit used to none)

pub groups_are : (summary words : List ℕ) (count : ℕ) → IsSummary summary words → 64 * length words ≡ count → count / 4096 ≡ length summary
groups_are summary words count s size = omega (arith, s.size, size)

-- all of them
pub none_to_end : (summary words config : List ℕ) (limit from last : ℕ) → IsSummary summary words → last ≡ length summary
    → NoneBelow words config limit (4096 * from) (4096 * last) → NoneBelow words config limit (4096 * from) (64 * length words)
none_to_end summary words config limit from last s is none =
    let place : 4096 * last ≡ 64 * length words = omega (arith, s.size, is) in
    subst (λ (n : ℕ). NoneBelow words config limit (4096 * from) n) place none

-- one word more
pub best_to_word : (words config : List ℕ) (mask from at : ℕ) (best : Best) → IsNextWord words config best.limit from at
    → IsBest words config mask (64 * from) best → IsBest words config mask (64 * at) best
best_to_word words config mask from at best next is =
    best_past words config mask (64 * from) (64 * at) best (let le = next.from in omega (arith, le)) next.before is

-- with an LPI before a higher limit too
below_mask : (words config : List ℕ) (limit mask at : ℕ) → limit ≤ mask → is_below words config limit at ≡ true → is_below words config mask at ≡ true
below_mask words config limit mask at le met =
    let both = and_parts (is_used words at) (nat_lt (least_priority config (8192 + 64 * at) 64) limit) met in
    let lt = ltb-true (least_priority config (8192 + 64 * at) 64) limit both.1 in
    rw (both.0, lt-ltb (least_priority config (8192 + 64 * at) 64) mask (omega (arith, lt, le))) refl

pub cost_with_word : (words config : List ℕ) (from at start mask steps after last limit' : ℕ) (best : Best)
    → IsNextWord words config best.limit from at → IsBest words config mask (64 * from) best
    → steps + priorities_before best.limit ≤ start + priorities_before mask + from / 64 + 2 * count_in (is_below words config mask) 0 from
    → after + from / 64 ≡ steps + at / 64 + 1 → last + priorities_before limit' ≤ after + priorities_before best.limit + 1
    → last + priorities_before limit' ≤ start + priorities_before mask + (at + 1) / 64 + 2 * count_in (is_below words config mask) 0 (at + 1)
cost_with_word words config from at start mask steps after last limit' best next is so_far walk turn =
    let le = next.from in
    let below = limit_below words config mask (64 * from) best.at best.limit is.found in
    let more = one_more (is_below words config mask) from at next.from (below_mask words config best.limit mask at below next.met) in
    let groups : at / 64 ≤ (at + 1) / 64 = omega arith in
    omega (arith, more, groups, so_far, walk, turn, le)

pub cost_of_all : (words config : List ℕ) (from start mask steps limit last : ℕ) → from ≤ length words
    → steps + priorities_before limit ≤ start + priorities_before mask + from / 64 + 2 * count_in (is_below words config mask) 0 from
    → last + from / 64 ≡ steps + length words / 64
    → last ≤ start + length words / 64 + 2 * count_in (is_below words config mask) 0 (length words) + priorities_before mask
cost_of_all words config from start mask steps limit last le so_far walk =
    omega (arith, used_so_far (is_below words config mask) from (length words) le, so_far, walk)

-- those words are used, and there are no more priorities than 64
pub cost_of_used : (words config : List ℕ) (start mask last : ℕ) → mask < 256
    → last ≤ start + length words / 64 + 2 * count_in (is_below words config mask) 0 (length words) + priorities_before mask
    → last ≤ start + length words / 64 + 2 * count_in (is_used words) 0 (length words) + 64
cost_of_used words config start mask last small cost =
    let used = count_in-le (is_below words config mask) (is_used words) 0 (length words)
    (λ k w is. (and_parts (is_used words k) (nat_lt (least_priority config (8192 + 64 * k) 64) mask) is).0) in
    omega (arith, used, small, cost)

pub best_cost : (words : List ℕ) (lpi_bits old new : ℕ) → 64 * length words ≡ lpi_count lpi_bits → ((k : ℕ) → get_or words k 0 < 2 ^ 64)
    → new ≤ old + length words / 64 + 2 * count_in (is_used words) 0 (length words) + 64
    → new ≤ old + summary_words lpi_bits + 2 * busy_words (record { lpi_bits = lpi_bits; lpis = lpis_of words }) + 64
best_cost words lpi_bits old new size small cost =
    let used = used_words words lpi_bits size small in
    let summaries : lpi_count lpi_bits / 4096 ≡ length words / 64 = omega arith in
    omega (arith, used, summaries, cost)
