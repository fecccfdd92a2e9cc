-- Accesses of the LPI registers under turns.
use Rattle.std.specs.Prelude.{◌≡◌, ◌⊎◌, ℕ, Bool, true, if◌then◌else◌}
use Rattle.gicr_regs.specs.Registers.{read_gicr, asked_by, reads_tables, changes_pending}
use Rattle.gicr_regs.specs.declared.write.GicrWrite.{GicrWrite}
use Rattle.its_types.specs.declared.ids.Vcpu.{Vcpu}
use Rattle.its_types.specs.declared.machine.Part.{Part}
use Rattle.its_types.specs.declared.machine.Part.TheVariants as part
use Rattle.its_plain.specs.Plain.{ConfState}
use Rattle.its_plain.specs.declared.call.Call.{Call}
use Rattle.its_plain.specs.declared.call.Call.TheVariants as call
use Rattle.its_plain.specs.declared.layout.Layout.{Layout}
use Rattle.its_steps.specs.Contents.{Conf}
use Rattle.its_steps.specs.Parts.{Setup}
use Rattle.its_turns.specs.Told.{HasStood}
use Rattle.gicr_lpi.specs.declared.access.GicrAccess.{GicrAccess}

-- what a read gives
abbrev pub read_by : Layout → ConfState → ℕ → ℕ → ℕ
read_by layout c off size = if layout.gicr then read_gicr layout.shape.linux c.bases off size else 0

abbrev pub access : Vcpu → ℕ → ℕ → ℕ → GicrAccess
access vcpu off size value = record { vcpu = vcpu; off = off; size = size; value = value }

abbrev pub write_call : GicrAccess → Call
write_call a = call.WriteGicr a.vcpu a.off a.size a.value

-- what a write asks for
abbrev pub asked : GicrAccess → ConfState → GicrWrite
asked a c = asked_by c.bases a.off a.size a.value

-- ---- the parts whose turns a write may get

-- so it was asked of registers that the processor had after some history
pub record WasAsked (s : Setup) (a : GicrAccess) (test : GicrWrite → Bool) : Type 0 where
  pub conf : ConfState
  pub stood : HasStood s (part.Conf a.vcpu) (Conf conf)
  pub asks : test (asked a conf) ≡ true

-- The processor's configuration. Memory, but only where the write asked to read tables, and what is pending, only where it asked to turn LPIs on or off
abbrev pub IsOfWrite : Setup → GicrAccess → Part → Type 0
IsOfWrite s a p = (p ≡ part.Conf a.vcpu)
    ⊎ (((p ≡ part.Mem) × WasAsked s a reads_tables) ⊎ ((p ≡ part.Pend a.vcpu) × WasAsked s a changes_pending))
