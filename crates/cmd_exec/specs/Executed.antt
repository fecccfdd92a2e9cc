-- What is promised of a command (IHI 0069, section 5.3) that is executed on parts in hand: in each state that has them, its outcome is what the plain machine
-- says.
use Rattle.std.specs.Prelude.{◌≡◌, ℕ, List, Result, Ok, Err}
use Rattle.guest_windows.specs.Windows.{Window}
use Rattle.gits_regs.specs.Registers.{Registers}
use Rattle.its_command.specs.Commands.{op_of}
use Rattle.its_command.specs.declared.command.Command.{Command}
use Rattle.its_command.specs.declared.command.Op.{Op}
use Rattle.its_types.specs.Maps.{Maps}
use Rattle.its_types.specs.declared.machine.Shape.{Shape}
use Rattle.its_plain.specs.Plain.{Plain}
use Rattle.its_plain.specs.Commands.{ran}
use Rattle.its_plain.specs.Answer.{command_reply, command_left, went_on}
use Rattle.its_plain.specs.declared.call.CmdReply.{CmdReply}
use Rattle.its_plain.specs.declared.call.CmdReply.TheVariants as reply
use Rattle.its_plain.specs.declared.call.Reason.{Reason}
use Rattle.its_plain.specs.declared.call.StepReply.{StepReply}
use Rattle.its_plain.specs.declared.call.StepReply.TheVariants.{Ran, Refused}
use Rattle.lpi_pending.specs.InHand.{RedistParts}
use Rattle.owned_parts.specs.Owned.{ArePartsOf}
use Rattle.cmd_exec.specs.declared.effect.Effect.{Effect}
use Rattle.cmd_exec.specs.declared.effect.Planned.{Planned}
use Rattle.cmd_exec.specs.Effects.{planned}

-- it is the outcome of the command on these parts
pub record IsPlanOf (c : Command) (s : Shape) (r : Registers) (m : Maps) (memory : List Window) (redists : RedistParts) (p : Planned) : Type 0 where
  pub command : p.command ≡ c
  pub outcome : p.outcome ≡ planned s r m memory redists c

-- what a command with this outcome is answered
abbrev pub outcome_reply : Op → Result Effect Reason → CmdReply
outcome_reply op (Ok effect) = reply.Ran op
outcome_reply op (Err reason) = reply.Refused op reason

abbrev pub planned_reply : Planned → CmdReply
planned_reply p = outcome_reply (op_of p.command) p.outcome

-- the reply of a step that met the command
abbrev pub as_step : CmdReply → StepReply
as_step (reply.Ran op) = Ran op
as_step (reply.Refused op reason) = Refused op reason

-- it is the reply in each state that has these parts
abbrev pub IsReplyTo : Command → Shape → Registers → Maps → List Window → RedistParts → CmdReply → Type 0
IsReplyTo c s r m memory redists answer = (u : Plain) (i : ℕ) → ArePartsOf u i s r m memory redists → as_step answer ≡ command_reply (op_of c) (ran u i c)

-- the state that the command leaves, with CREADR at the next
abbrev pub left_by : Command → Plain → ℕ → Plain
left_by c u i = went_on i (command_left u (ran u i c))

-- the new registers, maps and redistributors are what each state that had the old ones then has
abbrev pub AreLeftBy : Command → Shape → List Window → Registers × Maps × RedistParts → Registers × Maps × RedistParts → Type 0
AreLeftBy c s memory old new = (u : Plain) (i : ℕ) → ArePartsOf u i s old.0 old.1 memory old.2 → ArePartsOf (left_by c u i) i s new.0 new.1 memory new.2
