-- What a search looks at, and what it finds there.
use Rattle.std.specs.Prelude.{◌≡◌, ℕ, ◌+◌, ◌*◌, ◌≤◌, ◌<◌, true, List, length}
use Rattle.its_types.specs.Bits.{bit_of}
use Rattle.its_types.specs.Lpis.{priority_of}
use Rattle.its_types.specs.Ranges.{lpi_count}
use Rattle.lpi_config.specs.Configurations.{Configuration}
use Rattle.lpi_pending.specs.Priorities.{NoneBelow, is_below}
use Rattle.lpi_pending.specs.Searches.{NoneIn}
use Rattle.lpi_pending.specs.Summaries.{IsSummary, is_used, is_ready}

pub record Looked : Type 0 where
  pub words : List ℕ
  -- the bytes of the LPIs
  pub config : List ℕ

-- what holds of the fields
pub record IsLooked (summary words : List ℕ) (config : Configuration) : Type 0 where
  pub summarized : IsSummary summary words
  pub size : 64 * length words ≡ lpi_count config.lpi_bits

-- a group of 64 words that has a used one, which of them are used, and none is before it from one on
pub record IsNextUsed (words : List ℕ) (first group used : ℕ) : Type 0 where
  pub from : first ≤ group
  pub below : 64 * group + 64 ≤ length words
  pub small : group < 1024
  pub bits : (k : ℕ) → k < 64 → bit_of used k ≡ is_used words (64 * group + k)
  pub before : NoneIn (is_used words) (64 * first) (64 * group)

-- a used word that has an enabled LPI before a limit, and no ready bit of those before it from one on comes before that
pub record IsNextWord (words config : List ℕ) (limit first at : ℕ) : Type 0 where
  pub from : first ≤ at
  pub below : at < length words
  pub small : at < 65536
  pub met : is_below words config limit at ≡ true
  pub before : NoneBelow words config limit (64 * first) (64 * at)

-- a ready bit of a word, whose priority comes before a limit, and none is before it from one on
pub record IsNextLpi (words config : List ℕ) (limit at first bit priority : ℕ) : Type 0 where
  pub from : first ≤ bit
  pub below : bit < 64
  pub ready : is_ready words config (64 * at + bit) ≡ true
  pub same : priority ≡ priority_of config (8192 + (64 * at + bit))
  pub less : priority < limit
  pub before : NoneBelow words config limit (64 * at + first) (64 * at + bit)
