-- What a command reads of guest memory besides its own bytes, and of whom.
use Rattle.std.specs.Prelude.{◌≡◌, ℕ, ◌+◌, if◌then◌else◌, List, [], ◌∷◌, map, Option, Some, None}
use Rattle.gits_regs.specs.Registers.{Registers}
use Rattle.guest_windows.specs.Windows.{Window}
use Rattle.its_plain.specs.Plain.{Plain, Redistributor, translator}
use Rattle.its_types.specs.Maps.{Maps}
use Rattle.its_types.specs.declared.ids.Addr.{Addr}
use Rattle.its_types.specs.declared.machine.Shape.{Shape}
use Rattle.lpi_config.specs.Conf.{Conf}
use Rattle.lpi_pending.specs.InHand.{RedistParts}
use Rattle.owned_parts.specs.declared.redist_set.RedistSet.{RedistSet}
use Rattle.owned_parts.specs.declared.redist_set.RedistSet.TheVariants as redists
use Rattle.its_numbers.specs.Lists.{stretch_out}
use Rattle.its_numbers.specs.declared.lists.StretchOut.{StretchOut}
use Rattle.step_views.specs.Firsts.{HaveConfs}
use Rattle.step_views.specs.Pairs.{all_told}
use Rattle.step_views.specs.Reads.{byte_reads, table_reads, reads}
use Rattle.its_shared.specs.declared.besides.Besides.{Besides}
use Rattle.its_shared.specs.declared.besides.Besides.TheVariants.{Nothing, Entry, Byte, Tables}
use Rattle.its_shared.specs.declared.step_reads.StepReads.{StepReads}

-- the stretches, those of configurations once for each redistributor whose LPIs are on
abbrev pub besides_reads : Shape → List Redistributor → Besides → List (ℕ × ℕ)
besides_reads s rs Nothing = []
besides_reads s rs (Entry a) = (a.0, 8) ∷ []
besides_reads s rs (Byte intid) = byte_reads intid.0 rs
besides_reads s rs Tables = table_reads s rs

-- so many bytes of a configuration table, from an offset on
abbrev pub conf_read : ℕ → ℕ → Option Conf → List (ℕ × ℕ)
conf_read offset len None = []
conf_read offset len (Some c) = if c.bases.on then (c.bases.prop.table.0 + offset, len) ∷ [] else []

-- the virtual processors of n whose configurations say what these are
abbrev pub configs_of : ℕ → Besides → RedistSet
configs_of n Nothing = redists.Nothing
configs_of n (Entry a) = redists.Nothing
configs_of n (Byte intid) = redists.First n
configs_of n Tables = redists.First n

-- those are in hand
abbrev pub HaveRead : ℕ → RedistParts → Besides → Type 0
HaveRead n rs Nothing = Unit {0}
HaveRead n rs (Entry a) = Unit {0}
HaveRead n rs (Byte intid) = HaveConfs n rs
HaveRead n rs Tables = HaveConfs n rs

-- ---- a step

-- the command's 32 bytes, if it takes one, and then what it reads besides, each stretch once
abbrev pub told_first : Option Addr → List (ℕ × ℕ) → List (ℕ × ℕ)
told_first None besides = []
told_first (Some place) besides = all_told ((place.0, 32) ∷ []) besides

abbrev pub stretches : Shape → List Redistributor → StepReads → List (ℕ × ℕ)
stretches s rs r = told_first r.command (besides_reads s rs r.besides)

-- a state has this shape, these registers and maps of a translator, and this memory
pub record HasParts (u : Plain) (its : ℕ) (s : Shape) (r : Registers) (m : Maps) (memory : List Window) : Type 0 where
  pub shape : u.layout.shape ≡ s
  pub translator_is : translator u its ≡ record { regs = r; maps = m }
  pub memory_is : u.memory ≡ memory

-- what the next step of a translator reads
abbrev pub needed : ℕ → Plain → List StretchOut
needed its u = map stretch_out (reads u its)
