-- Why a translator takes no command (IHI 0069, section 5.3).
use Rattle.std.specs.Prelude.{if◌then◌else◌, Option, Some, None}
use Rattle.gits_regs.specs.Registers.{Registers, is_queue_empty}
use Rattle.call_facts.specs.declared.idle.IdleCause.{IdleCause}
use Rattle.call_facts.specs.declared.idle.IdleCause.TheVariants.{NotEnabled, Empty}

abbrev pub idle_cause : Registers → Option IdleCause
idle_cause r = if r.enabled then (if is_queue_empty r then Some Empty else None) else Some NotEnabled
