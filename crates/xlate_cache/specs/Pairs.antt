-- Where a pair of a DeviceID and an EventID stands in a cache of translations.
use Rattle.std.specs.Prelude.{ℕ, ◌+◌, ◌*◌, ◌/◌, ◌%◌, ◌^◌}

-- a number of 32 bits of the pair
abbrev pub pair_hash : ℕ → ℕ → ℕ
pair_hash dev ev = (31 * dev + ev) % 2 ^ 32

-- the shard of the pair, where there are so many
abbrev pub shard_number : ℕ → ℕ → ℕ → ℕ
shard_number dev ev shards = pair_hash dev ev % shards

-- the set of the pair in its shard
abbrev pub set_number : ℕ → ℕ → ℕ
set_number dev ev = let hash = pair_hash dev ev in (hash + hash / 64) % 64
