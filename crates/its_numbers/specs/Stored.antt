-- What the LPI registers of a redistributor are restored from, as numbers.
use Rattle.std.specs.Prelude.{ℕ, if◌then◌else◌}
use Rattle.gicr_regs.specs.Registers.{values_of}
use Rattle.gicr_regs.specs.declared.values.GicrRegisters.{GicrRegisters}
use Rattle.its_numbers.specs.declared.numbers.RedistributorIn.{RedistributorIn}
use Rattle.its_plain.specs.Plain.{Plain, redistributor}

abbrev pub as_given : GicrRegisters → RedistributorIn
as_given v = record { ctlr = v.ctlr; propbaser = v.propbaser; pendbaser = v.pendbaser }

-- the values that the LPI registers of a virtual processor are restored from; zeros where the guest doesn't program them
abbrev pub stored : Plain → ℕ → RedistributorIn
stored u vcpu = if u.layout.gicr then as_given (values_of (redistributor u vcpu).bases) else record { ctlr = 0; propbaser = 0; pendbaser = 0 }
