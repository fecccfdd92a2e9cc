-- The search for the LPI that comes first by priority: what was found among the first n bits, and where none is.
use Rattle.std.specs.Prelude.{◌≡◌, ℕ, ◌+◌, ◌*◌, ◌/◌, ◌≤◌, ◌<◌, Bool, ◌&&◌, true, nat_lt, List, MatchOption, length}
use Rattle.its_types.specs.Bits.{bit_of}
use Rattle.its_types.specs.Lpis.{priority_of}
use Rattle.lpi_config.specs.Bounds.{least_priority}
use Rattle.lpi_pending.specs.Summaries.{is_used, is_ready}
use Rattle.lpi_pending.specs.declared.best.Best.{Best}

-- bit x is ready and below the mask, of this priority, and each ready one before it comes after it by priority
pub record IsFound (words config : List ℕ) (mask n priority x : ℕ) : Type 0 where
  pub within : x < n
  pub ready : is_ready words config x ≡ true
  pub same : priority_of config (8192 + x) ≡ priority
  pub unmasked : priority < mask
  pub before : (y : ℕ) → y < x → is_ready words config y ≡ true → priority < priority_of config (8192 + y)

-- no ready bit comes before what was found
pub record IsBest (words config : List ℕ) (mask n : ℕ) (best : Best) : Type 0 where
  pub least : (y : ℕ) → y < n → is_ready words config y ≡ true → best.limit ≤ priority_of config (8192 + y)
  pub found : MatchOption best.at (best.limit ≡ mask) (λ x. IsFound words config mask n best.limit x)

-- no ready bit from low on, below high, comes before a limit
abbrev pub NoneBelow : List ℕ → List ℕ → ℕ → ℕ → ℕ → Type 0
NoneBelow words config limit low high = (y : ℕ) → low ≤ y → y < high → is_ready words config y ≡ true → limit ≤ priority_of config (8192 + y)

-- a group of 64 words, and none before it from one on comes before the limit
pub record IsNextGroup (words config : List ℕ) (limit first group : ℕ) : Type 0 where
  pub from : first ≤ group
  pub below : 64 * group + 64 ≤ length words
  pub before : NoneBelow words config limit (4096 * first) (4096 * group)

-- a word that is used and has an enabled LPI before a limit
abbrev pub is_below : List ℕ → List ℕ → ℕ → ℕ → Bool
is_below words config limit k = is_used words k && nat_lt (least_priority config (8192 + 64 * k) 64) limit

-- of the words of a group, one that is used and has an enabled LPI before a limit
abbrev pub is_left_of_group : List ℕ → ℕ → ℕ → ℕ → ℕ → Bool
is_left_of_group config limit group used k = bit_of used k && nat_lt (least_priority config (8192 + 64 * (64 * group + k)) 64) limit

-- of the LPIs of a word, one that is ready and comes before a limit
abbrev pub is_left : List ℕ → ℕ → ℕ → ℕ → ℕ → Bool
is_left config limit at ready k = bit_of ready k && nat_lt (priority_of config (8192 + 64 * at + k)) limit

-- how many priorities, which are multiples of 4, come before a limit
abbrev pub priorities_before : ℕ → ℕ
priorities_before limit = (limit + 3) / 4
