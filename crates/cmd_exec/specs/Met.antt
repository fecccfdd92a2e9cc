-- What a step meets in the queue.
use Rattle.std.specs.Prelude.{◌≡◌, ℕ, true, false, not, ◌||◌, Some, None, List}
use Rattle.guest_windows.specs.Windows.{Window, read_at}
use Rattle.gits_regs.specs.Registers.{Registers, queue_place, is_queue_empty}
use Rattle.its_command.specs.Commands.{decoded}
use Rattle.its_command.specs.declared.command.Command.{Command}
use Rattle.its_plain.specs.declared.call.StepReply.{StepReply}
use Rattle.its_plain.specs.declared.call.StepReply.TheVariants.{Idle, QueueFault}
use Rattle.cmd_exec.specs.declared.met.Met.{Met}
use Rattle.cmd_exec.specs.declared.met.Met.TheVariants as met

-- the translator is enabled and has a command, whose 32 bytes are in memory (IHI 0069, section 5.3)
pub record MeetsCommand (r : Registers) (memory : List Window) (c : Command) : Type 0 where
  pub busy : (not r.enabled || is_queue_empty r) ≡ false
  pub bytes : List ℕ
  pub bytes_are : read_at memory (queue_place r) 32 ≡ Some bytes
  pub command : decoded bytes ≡ c

-- it has none, or there is no memory where it should be
abbrev pub MeetsNone : Registers → List Window → StepReply → Type 0
MeetsNone r memory Idle = (not r.enabled || is_queue_empty r) ≡ true
MeetsNone r memory (QueueFault addr) = ((not r.enabled || is_queue_empty r) ≡ false) × (addr.0 ≡ queue_place r) × (read_at memory (queue_place r) 32 ≡ None)
MeetsNone r memory other = ⊥

abbrev pub Meets : Registers → List Window → Met → Type 0
Meets r memory (met.Still reply) = MeetsNone r memory reply
Meets r memory (met.Command c) = MeetsCommand r memory c
