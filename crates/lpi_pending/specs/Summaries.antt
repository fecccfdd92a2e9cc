-- A bitmap with a summary: one bit for each word, 1 where the word isn't zero.
use Rattle.std.specs.Prelude.{◌≡◌, ℕ, ◌+◌, ◌*◌, ◌≤◌, Bool, not, ◌==◌, ◌&&◌, List, length, slice_index}
use Rattle.its_types.specs.Lpis.{is_enabled}
use Rattle.its_types.specs.Bitmap.{word_bit}

abbrev pub is_nonzero : ℕ → Bool
is_nonzero word = not (word == 0)

-- some bit of this word is 1
abbrev pub is_used : List ℕ → ℕ → Bool
is_used words k = is_nonzero (slice_index words k)

pub record IsSummary (summary words : List ℕ) : Type 0 where
  pub size : length words ≡ 64 * length summary
  pub small : length summary ≤ 1024
  pub bits : (k : ℕ) → word_bit summary k ≡ is_used words k

-- bit k is 1, and the LPI that it stands for is enabled
abbrev pub is_ready : List ℕ → List ℕ → ℕ → Bool
is_ready words config k = word_bit words k && is_enabled config (8192 + k)
