use Rattle.std.proofs.Common.{◌≡◌, ◌<◌, ◌≤◌, ◌-◌, ℕ, ◌&&◌, nat_lt, length}
use Rattle.its_types.specs.Bitmap.{word_bit}
use Rattle.its_types.specs.Ranges.{most_vcpus}
use Rattle.owned_parts.specs.RedistSets.{is_in}
use Rattle.its_numbers.proofs.concerned.concerned_words.Given as goal

-- the bits of the virtual processors so far
abbrev pub invariant-loop-next : goal.invariant-loop-next
invariant-loop-next l = record {
  low : l.next ≤ most_vcpus;
  words : length l.words ≡ 8;
  same : (v : ℕ) → v < most_vcpus → word_bit l.words v ≡ (is_in l.set v && nat_lt v l.next);
}

abbrev pub decreases-loop-next : goal.decreases-loop-next
decreases-loop-next l = most_vcpus - l.next
