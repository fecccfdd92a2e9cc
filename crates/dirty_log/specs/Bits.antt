-- Bits in words of 64, with a summary: one bit for each word, 1 where the word isn't zero.
use Rattle.std.specs.Prelude.{◌≡◌, ℕ, ◌*◌, ◌^◌, ◌≤◌, ◌<◌, Bool, true, false, not, ◌==◌, List, length, slice_index, map, Option, MatchOption, count_by}
use Rattle.std.specs.List.{range_with_len}
use Rattle.its_types.specs.Bitmap.{word_bit}

-- ---- the first number of a range that passes a test

-- none from low on, below high
abbrev pub NoneIn : (ℕ → Bool) → ℕ → ℕ → Type 0
NoneIn test low high = (y : ℕ) → low ≤ y → y < high → test y ≡ false

pub record IsFirstIn (test : ℕ → Bool) (low high x : ℕ) : Type 0 where
  pub from : low ≤ x
  pub below : x < high
  pub met : test x ≡ true
  pub before : NoneIn test low x

abbrev pub FirstIn : (ℕ → Bool) → ℕ → ℕ → Option ℕ → Type 0
FirstIn test low high found = MatchOption found (NoneIn test low high) (λ x. IsFirstIn test low high x)

-- ---- words

abbrev pub is_nonzero : ℕ → Bool
is_nonzero word = not (word == 0)

-- some bit of this word is 1
abbrev pub is_used : List ℕ → ℕ → Bool
is_used words k = is_nonzero (slice_index words k)

pub record IsSummary (summary words : List ℕ) : Type 0 where
  pub size : length words ≡ 64 * length summary
  pub small : length summary ≤ 2 ^ 32
  pub bits : (k : ℕ) → word_bit summary k ≡ is_used words k

-- ---- the first bits as a list

abbrev pub flags : List ℕ → ℕ → List Bool
flags words n = map (word_bit words) (range_with_len 0 n)

-- there are words for n bits, of which so many are 1
pub record IsCounted (words : List ℕ) (ones n : ℕ) : Type 0 where
  pub room : n ≤ 64 * length words
  pub small : n ≤ 2 ^ 40
  pub count : ones ≡ count_by (λ b. b) (flags words n)
