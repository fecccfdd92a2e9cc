-- The first ready bit is the first LPI that is pending and enabled, and the words looked at have a pending one.
use Rattle.std.proofs.Common.{◌≡◌, ℕ, ◌+◌, ◌-◌, ◌*◌, ◌/◌, ◌%◌, ◌^◌, ◌<◌, ◌≤◌, Bool, true, List, [], ◌∷◌, length, get_or, Some, None, eqb, sym, ap, ◌∙◌, inl}
use Rattle.std.proofs.Common.{inr, arith}
use Rattle.std.specs.Prelude.{◌&&◌}
use Rattle.std.specs.List.{list_any}
use Rattle.std.specs.Int.{w64, trailing_zeros}
use Rattle.std.proofs.lemmas.Bool.{eq-eqb, eqb-true, or_left, or_right, or_cases}
use Rattle.its_types.specs.Bits.{bit_of}
use Rattle.its_types.specs.Ranges.{lpi_count}
use Rattle.its_types.specs.Lpis.{is_pending, is_enabled, first_enabled}
use Rattle.lpi_pending.specs.Searches.{NoneIn, IsFirstIn, count_in}
use Rattle.lpi_pending.specs.Summaries.{is_used, is_ready}
use Rattle.lpi_pending.specs.PendingSets.{lpi_bit, lpis_of, is_busy, busy_words, summary_words}
use Rattle.lpi_config.proofs.LowestBits.{lowest}
use Rattle.lpi_pending.proofs.Bits.{is_nonzero-true}
use Rattle.lpi_pending.proofs.Sets.{IsWithin, find-those, find-range_first, find-range_none}
use Rattle.lpi_pending.proofs.Counts.{count_in-le, count_in-shift}
use Rattle.lpi_pending.proofs.Bitmaps.{is_pending-lpis_of}

-- an LPI is ready where its bit is
ready_is : (words config : List ℕ) (x : ℕ) → 8192 ≤ x → is_ready words config (x - 8192) ≡ (lpi_bit words x && is_enabled config x)
ready_is words config x from =
    let place : 8192 + (x - 8192) ≡ x = omega arith in
    ap (λ y. lpi_bit words x && is_enabled config y) place

pub first_is :
    (words config : List ℕ) (k : ℕ) → IsFirstIn (is_ready words config) 0 (64 * length words) k → first_enabled config (lpis_of words) ≡ Some (8192 + k)
first_is words config k first =
    let place : 8192 + k - 8192 ≡ k = omega arith in
    find-those (is_enabled config) (lpi_bit words) 8192 (64 * length words)
    ∙ find-range_first (λ x. lpi_bit words x && is_enabled config x) 8192 (64 * length words) (8192 + k)
    (record { from = omega arith; below = omega (arith, first.below) })
    (sym (ready_is words config (8192 + k) (omega arith)) ∙ ap (is_ready words config) place ∙ first.met)
    (λ y from below. sym (ready_is words config y from) ∙ first.before (y - 8192) (omega arith) (omega arith))

pub none_is : (words config : List ℕ) → NoneIn (is_ready words config) 0 (64 * length words) → first_enabled config (lpis_of words) ≡ None
none_is words config none =
    find-those (is_enabled config) (lpi_bit words) 8192 (64 * length words)
    ∙ find-range_none (λ x. lpi_bit words x && is_enabled config x) 8192 (64 * length words)
    (λ y w. sym (ready_is words config y w.from) ∙ none (y - 8192) (omega arith) (omega (arith, w.from, w.below)))

-- ---- words that are used

any_weaker : (p q : ℕ → Bool) (xs : List ℕ) → ((x : ℕ) → p x ≡ true → q x ≡ true) → list_any p xs ≡ true → list_any q xs ≡ true
any_weaker p q [] implied any = any
any_weaker p q (x ∷ xs) implied any =
    elim (or_cases (p x) (list_any p xs) any) [
      | inl here ↦ or_left (q x) (list_any q xs) (implied x here)
      | inr later ↦ or_right (q x) (list_any q xs) (any_weaker p q xs implied later)
    ]

used_is_busy :
    (words : List ℕ) (k : ℕ) → k < length words → get_or words k 0 < 2 ^ 64 → is_used words k ≡ true → is_busy (lpis_of words) (128 + k) ≡ true
used_is_busy words k lt small used =
    let low = lowest (get_or words k 0) (is_nonzero-true (get_or words k 0) used) small in
    let i : ℕ = trailing_zeros w64 (get_or words k 0) in
    let x : ℕ = 8192 + 64 * k + trailing_zeros w64 (get_or words k 0) in
    let word : (8192 + 64 * k + trailing_zeros w64 (get_or words k 0) - 8192) / 64 ≡ k = omega (arith, low.below) in
    let bit : (8192 + 64 * k + trailing_zeros w64 (get_or words k 0) - 8192) % 64 ≡ trailing_zeros w64 (get_or words k 0) = omega (arith, low.below) in
    let within : IsWithin 8192 (64 * length words) (8192 + 64 * k + trailing_zeros w64 (get_or words k 0)) =
    record { from = omega arith; below = omega (arith, low.below) } in
    let is : is_pending (8192 + 64 * k + trailing_zeros w64 (get_or words k 0)) (lpis_of words) ≡ true =
    is_pending-lpis_of words (8192 + 64 * k + trailing_zeros w64 (get_or words k 0)) within
    ∙ ap (λ j. bit_of (get_or words j 0) ((8192 + 64 * k + trailing_zeros w64 (get_or words k 0) - 8192) % 64)) word ∙ ap (bit_of (get_or words k 0)) bit
    ∙ low.met
    in
    any_weaker (λ y. eqb y (8192 + 64 * k + trailing_zeros w64 (get_or words k 0))) (λ y. eqb (y / 64) (128 + k)) (lpis_of words)
    (λ y same. let e : y ≡ 8192 + 64 * k + trailing_zeros w64 (get_or words k 0) = eqb-true y _ same in eq-eqb (y / 64) (128 + k) (omega (arith, low.below)))
    is

-- the words that are used have a pending LPI
pub used_words : (words : List ℕ) (lpi_bits : ℕ) → 64 * length words ≡ lpi_count lpi_bits → ((k : ℕ) → get_or words k 0 < 2 ^ 64)
    → count_in (is_used words) 0 (length words) ≤ busy_words (record { lpi_bits = lpi_bits; lpis = lpis_of words })
used_words words lpi_bits size small =
    let lpis = lpis_of words in
    let n : lpi_count lpi_bits / 64 ≡ length words = omega arith in
    let used : count_in (is_used words) 0 (length words) ≤ count_in (λ k. is_busy (lpis_of words) (128 + k)) 0 (length words) =
    count_in-le (is_used words) (λ k. is_busy (lpis_of words) (128 + k)) 0 (length words) (λ k w is. used_is_busy words k (omega (arith, w.below)) (small k) is)
    in
    let shifted : count_in (λ k. is_busy (lpis_of words) (128 + k)) 0 (length words) ≡ count_in (is_busy (lpis_of words)) 128 (length words) =
    count_in-shift (is_busy (lpis_of words)) 128 0 (length words) in
    let busy : count_in (is_busy (lpis_of words)) 128 (lpi_count lpi_bits / 64) ≡ count_in (is_busy (lpis_of words)) 128 (length words) =
    ap (count_in (is_busy (lpis_of words)) 128) n in
    omega (arith, used, shifted, busy)

pub cost_is :
    (words : List ℕ) (lpi_bits : ℕ) (old new : ℕ) → 64 * length words ≡ lpi_count lpi_bits → ((k : ℕ) → get_or words k 0 < 2 ^ 64)
    → new ≤ old + length words / 64 + count_in (is_used words) 0 (length words)
    → new ≤ old + summary_words lpi_bits + busy_words (record { lpi_bits = lpi_bits; lpis = lpis_of words })
cost_is words lpi_bits old new size small cost =
    let used = used_words words lpi_bits size small in
    let summaries : lpi_count lpi_bits / 4096 ≡ length words / 64 = omega arith in
    omega (arith, used, summaries, cost)
