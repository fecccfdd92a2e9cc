use Rattle.std.proofs.Common.{◌≡◌, ℕ, ◌+◌, ◌*◌, ◌<◌, length}
use Rattle.std.specs.Prelude.{slice_index}
use Rattle.its_plain.specs.Saved.{pending_word}
use Rattle.table_save.proofs.pending.words_from.Given as goal

abbrev pub invariant-loop-i : goal.invariant-loop-i
invariant-loop-i l = record {
  size : length l.words ≡ length l.initial.words;
  words : (k : ℕ) → k < l.i → slice_index l.words k ≡ pending_word l.pending.lpis (1024 + 8 * (l.first + k));
}
