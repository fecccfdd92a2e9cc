use Rattle.std.proofs.Common.{◌≡◌, ◌<◌, ◌≤◌, ◌-◌, ℕ, length}
use Rattle.std.specs.Prelude.{slice_index}
use Rattle.its_numbers.specs.Lists.{SameFrom}
use Rattle.its_c.proofs.words.put_word.Given as goal

-- the first bytes are copied, and the rest of the buffer is as it was
abbrev pub invariant-loop-at : goal.invariant-loop-at
invariant-loop-at l = record {
  same_length : length l.buffer ≡ length l.initial.buffer;
  low : l.at ≤ length l.word;
  copied : (i : ℕ) → i < l.at → slice_index l.buffer i ≡ slice_index l.word i;
  rest : SameFrom l.at l.initial.buffer l.buffer;
}

abbrev pub decreases-loop-at : goal.decreases-loop-at
decreases-loop-at l = length l.word - l.at
