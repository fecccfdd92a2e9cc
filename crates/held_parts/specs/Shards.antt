-- Shards of a translator that a pass holds.
use Rattle.std.specs.Prelude.{◌≡◌, ℕ, nat_lt, is_some, Option, Some, None, List, slice_index_or}
use Rattle.its_types.specs.declared.machine.Part.{Part}
use Rattle.its_types.specs.declared.machine.Part.TheVariants as part
use Rattle.xlate_cache.specs.Ways.{no_entries}
use Rattle.xlate_cache.specs.declared.entry.Entry.{Entry as Translation}
use Rattle.its_steps.specs.Contents.{Held, Shard}
use Rattle.its_steps.specs.World.{out}
use Rattle.its_turns.specs.Order.{IsInOrder}
use Rattle.held_parts.specs.Rows.{Row, in_row}

abbrev pub Ways : Type 0
Ways = List (Option Translation)

-- the shard at a place, if it is in hand
abbrev pub in_place : List (Option Ways) → ℕ → Option Ways
in_place shards number = slice_index_or shards number None

-- one of them, as it is held
abbrev pub shard_held : ℕ → ℕ → Ways → Held
shard_held its number ways = out (part.Shard its number) (Shard ways)

abbrev pub held_if_in : ℕ → ℕ → Option Ways → Option Held
held_if_in its number None = None
held_if_in its number (Some ways) = Some (shard_held its number ways)

-- those in hand
abbrev pub shard_row : ℕ → List (Option Ways) → Row
shard_row its shards number = held_if_in its number (in_place shards number)

-- those in hand of the translator's first n before other parts, the highest first
abbrev pub shards_held : ℕ → List (Option Ways) → ℕ → List Held → List Held
shards_held its shards n others = in_row (shard_row its shards) n others

-- none is in hand
abbrev pub AreNoShards : List (Option Ways) → Type 0
AreNoShards shards = (number : ℕ) → in_place shards number ≡ None

-- the first n are, and no other
abbrev pub AreShards : ℕ → List (Option Ways) → Type 0
AreShards n shards = (number : ℕ) → is_some (in_place shards number) ≡ nat_lt number n

-- all that is held comes before the translator's
abbrev pub AreBeforeShards : ℕ → List Held → Type 0
AreBeforeShards its held = (number : ℕ) → IsInOrder (part.Shard its number) held

abbrev pub emptied : Option Ways → Option Ways
emptied None = None
emptied (Some ways) = Some no_entries

-- each that is in hand has lost every translation
abbrev pub AreEmptied : List (Option Ways) → List (Option Ways) → Type 0
AreEmptied old new = (number : ℕ) → in_place new number ≡ emptied (in_place old number)

-- the part is a shard of this translator
abbrev pub IsShardOf : ℕ → Part → Type 0
IsShardOf its (part.Shard i number) = i ≡ its
IsShardOf its p = ⊥
