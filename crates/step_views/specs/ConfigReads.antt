-- What a command reads of configuration tables, of each table once.
use Rattle.std.specs.Prelude.{◌≡◌, ◌<◌, ◌≤◌, ◌^◌, ◌+◌, ◌-◌, ℕ, if◌then◌else◌, length, List, [], ◌∷◌, Option, Some, None}
use Rattle.std.specs.List.{flat_map, range_with_len}
use Rattle.its_types.specs.Bitmap.{word_bit}
use Rattle.its_types.specs.Ranges.{most_vcpus}
use Rattle.lpi_config.specs.Conf.{Conf}
use Rattle.lpi_pending.specs.InHand.{RedistParts, conf_in}
use Rattle.step_views.specs.Firsts.{HaveConfs, is_first}

-- so many bytes of the table, from an offset on
abbrev pub stretch_in : ℕ → ℕ → Option Conf → List (ℕ × ℕ)
stretch_in offset len None = []
stretch_in offset len (Some c) = (c.bases.prop.table.0 + offset, len) ∷ []

-- those of the virtual processor, where it is the first that has this table
abbrev pub read_at : RedistParts → ℕ → ℕ → ℕ → List (ℕ × ℕ)
read_at redists offset len vcpu = if is_first redists vcpu then stretch_in offset len (conf_in redists vcpu) else []

-- of the virtual processors from `next` on, below `end`
abbrev pub left_of : RedistParts → ℕ → ℕ → ℕ → ℕ → List (ℕ × ℕ)
left_of redists offset len next end = flat_map (read_at redists offset len) (range_with_len next (end - next))

-- what makes them readable: all are in hand, and the first ones are marked
pub record AreReadable (redists : RedistParts) (offset : ℕ) (firsts : List ℕ) (next end : ℕ) : Type 0 where
  pub few : end ≤ most_vcpus
  pub left : next ≤ end
  pub there : HaveConfs end redists
  pub near : offset < 2 ^ 32
  pub words : length firsts ≡ 8
  pub marked : (vcpu : ℕ) → vcpu < end → word_bit firsts vcpu ≡ is_first redists vcpu
