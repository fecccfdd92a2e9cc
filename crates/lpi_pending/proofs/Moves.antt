-- One bitmap moved into another, and what holds of every set.
use Rattle.std.proofs.Common.{◌≡◌, ℕ, ◌-◌, ◌*◌, ◌/◌, ◌%◌, Bool, true, false, List, length, get_or, bit_or, refl, sym, ap, ◌∙◌, arith}
use Rattle.std.specs.Prelude.{◌||◌}
use Rattle.std.specs.List.{All}
use Rattle.std.specs.List.Sorted.{IsStrictlyIncreasing}
use Rattle.std.proofs.lemmas.Bool.{lt-ltb, le-leb, and_from}
use Rattle.std.proofs.lemmas.List.{get_or_default}
use Rattle.its_types.specs.Bits.{bit_of}
use Rattle.its_types.specs.Ranges.{is_lpi, lpi_count}
use Rattle.its_types.specs.Lpis.{is_pending, with_lpis}
use Rattle.its_types.specs.Bitmap.{word_bit}
use Rattle.lpi_pending.specs.Summaries.{is_nonzero, is_used, IsSummary}
use Rattle.lpi_pending.specs.PendingSets.{lpi_bit, lpis_of}
use Rattle.lpi_pending.proofs.Bits.{bit_of-or, is_nonzero-or}
use Rattle.lpi_pending.proofs.Sets.{IsWithin, with_lpis-those, within-those, get_or-those, rising-those}
use Rattle.lpi_pending.proofs.Bitmaps.{is_pending-lpis_of, lpis_of-same}

-- each word of `new` has the bits of both
abbrev pub AreMoved : List ℕ → List ℕ → List ℕ → Type 0
AreMoved to from new = (k : ℕ) → get_or new k 0 ≡ bit_or (get_or to k 0) (get_or from k 0)

pub moved_bits : (to from new : List ℕ) → AreMoved to from new → (k : ℕ) → word_bit new k ≡ (word_bit to k || word_bit from k)
moved_bits to from new moved k = ap (λ w. bit_of w (k % 64)) (moved (k / 64)) ∙ bit_of-or (get_or to (k / 64) 0) (get_or from (k / 64) 0) (k % 64)

pub moved_summary :
    (to_summary to from_summary from new_summary new : List ℕ) → IsSummary to_summary to → IsSummary from_summary from
    → AreMoved to_summary from_summary new_summary → AreMoved to from new → length new_summary ≡ length to_summary → length new ≡ length to
    → IsSummary new_summary new
moved_summary to_summary to from_summary from new_summary new s s' summaries words size size' = record {
  size = size' ∙ s.size ∙ ap (λ n. 64 * n) (sym size);
  small = omega (arith, size, s.small);
  bits = λ k.
      moved_bits to_summary from_summary new_summary summaries k ∙ ap (λ b. b || word_bit from_summary k) (s.bits k) ∙ ap (λ b. is_used to k || b) (s'.bits k)
      ∙ sym (ap is_nonzero (words k) ∙ is_nonzero-or (get_or to k 0) (get_or from k 0));
}

or_comm : (x y : Bool) → (x || y) ≡ (y || x)
or_comm true true = refl
or_comm true false = refl
or_comm false true = refl
or_comm false false = refl

pub moved_lpis :
    (to from new : List ℕ) → length new ≡ length to → length from ≡ length to → ((k : ℕ) → word_bit new k ≡ (word_bit to k || word_bit from k))
    → lpis_of new ≡ with_lpis (lpis_of from) (lpis_of to)
moved_lpis to from new size size' bits =
    lpis_of-same new (64 * length to) (λ y. is_pending y (lpis_of from) || lpi_bit to y) (ap (λ n. 64 * n) size)
    (λ y w. bits (y - 8192) ∙ or_comm (lpi_bit to y) (lpi_bit from y) ∙ ap (λ b. b || lpi_bit to y) (sym (is_pending-lpis_of from y (same_size y w))))
    ∙ sym (with_lpis-those (lpis_of from) (lpi_bit to) 8192 (64 * length to) (λ x is. same_size' x (within-those (lpi_bit from) 8192 (64 * length from) x is)))
  where
    same_size : (y : ℕ) → IsWithin 8192 (64 * length to) y → IsWithin 8192 (64 * length from) y
    same_size y w = record { from = w.from; below = omega (arith, w.below, size') }

    same_size' : (y : ℕ) → IsWithin 8192 (64 * length from) y → IsWithin 8192 (64 * length to) y
    same_size' y w = record { from = w.from; below = omega (arith, w.below, size') }

-- ---- every set rises, and its LPIs are in range

pub lpis_rise : (words : List ℕ) → IsStrictlyIncreasing (lpis_of words)
lpis_rise words k lt = rising-those (lpi_bit words) 8192 (64 * length words) k lt

pub lpis_in_range : (lpi_bits : ℕ) (words : List ℕ) → 64 * length words ≡ lpi_count lpi_bits → All (λ x. is_lpi lpi_bits x ≡ true) (lpis_of words)
lpis_in_range lpi_bits words size k d lt =
    let w = get_or-those (lpi_bit words) 8192 (64 * length words) k lt in
    let same = get_or_default (lpis_of words) k d 0 lt in
    rw same (and_from _ _ (le-leb 8192 _ w.from) (lt-ltb _ _ (omega (arith, w.from, w.below))))
