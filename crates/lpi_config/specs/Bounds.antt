-- The least priorities of enabled LPIs: of those of a word of 64, and of those of a group of 64 words.
use Rattle.std.specs.Prelude.{◌≡◌, ℕ, zero, suc, ◌+◌, ◌*◌, ◌<◌, ◌≤◌, ◌%◌, ◌==◌, if◌then◌else◌, min, bit_and, List, length, slice_index}
use Rattle.std.specs.Prelude.{slice_index_or}
use Rattle.its_types.specs.Lpis.{config_byte}

-- the least of a function's values at n numbers from a on, and 255 where none is less
unfoldable pub least_in : (ℕ → ℕ) → ℕ → ℕ → ℕ
least_in f a zero = 255
least_in f a (suc n) = min (least_in f a n) (f (a + n))

-- by an LPI's byte: its priority where it is enabled, and else 255, which is below no limit
abbrev pub rank : ℕ → ℕ
rank byte = if byte % 2 == 1 then bit_and byte 252 else 255

-- the least priority of those of n LPIs that are enabled, and 255 where none is
abbrev pub least_priority : List ℕ → ℕ → ℕ → ℕ
least_priority config intid n = least_in (λ x. rank (config_byte config x)) intid n

-- ---- what holds of the fields

-- that of a word of 64 LPIs, by their bytes
abbrev pub least_of_word : List ℕ → ℕ → ℕ
least_of_word bytes word = least_in (λ k. rank (slice_index bytes k)) (64 * word) 64

abbrev pub AreOfBytes : List ℕ → List ℕ → Type 0
AreOfBytes words bytes = (j : ℕ) → j < length words → slice_index words j ≡ least_of_word bytes j

-- that of a group of 64 words; 255 past the last word
abbrev pub least_of_group : List ℕ → ℕ → ℕ
least_of_group words group = least_in (λ j. slice_index_or words j 255) (64 * group) 64

-- of the first n groups
abbrev pub AreOfWords : List ℕ → List ℕ → ℕ → Type 0
AreOfWords groups words n = (g : ℕ) → g < n → slice_index groups g ≡ least_of_group words g

pub record IsOfWords (groups words : List ℕ) : Type 0 where
  -- whole groups of words, and whole blocks of 64 groups
  pub whole : length words % 64 ≡ 0
  pub blocks : length groups % 64 ≡ 0
  pub room : length words ≤ 64 * length groups
  pub small : length groups ≤ 256
  pub in_step : AreOfWords groups words (length groups)
