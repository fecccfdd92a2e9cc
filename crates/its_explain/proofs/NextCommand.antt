-- The command that is met is the next one.
use Rattle.std.proofs.Common.{◌≡◌, ℕ, Bool, List, Option, Some, None, ap, sym, ◌∙◌, if◌then◌else◌}
use Rattle.std.specs.Option.{option_map}
use Rattle.std.specs.Prelude.{slice_get}
use Rattle.cmd_exec.specs.Met.{MeetsCommand, MeetsNone}
use Rattle.gits_regs.specs.Registers.{Registers, queue_place}
use Rattle.guest_windows.specs.Windows.{Window, read_at}
use Rattle.its_command.specs.Commands.{decoded}
use Rattle.its_command.specs.declared.command.Command.{Command}
use Rattle.its_plain.specs.Plain.{Plain, no_translator, translator}
use Rattle.its_plain.specs.declared.call.StepReply.{StepReply}
use Rattle.its_plain.specs.declared.call.StepReply.TheVariants.{Idle, Ran, Refused, QueueFault}
use Rattle.owned_machine.proofs.Lists.{found_at, not_found}
use Rattle.owned_parts.specs.Owned.{translator_at}
use Rattle.owned_parts.specs.declared.in_place.TranslatorRef.{TranslatorRef}
use Rattle.its_explain.specs.Steps.{command_of}

abbrev by_test : Registers → List Window → Bool → Option Command
by_test r m b = if b then None else option_map decoded (read_at m (queue_place r) 32)

pub met_none : (r : Registers) (m : List Window) (reply : StepReply) → MeetsNone r m reply → command_of r m ≡ None
met_none r m Idle h = ap (by_test r m) h
met_none r m (QueueFault addr) h = ap (by_test r m) h.0 ∙ ap (option_map decoded) h.2
met_none r m (Ran op) h = absurd h
met_none r m (Refused op reason) h = absurd h

pub met_some : (r : Registers) (m : List Window) (c : Command) → MeetsCommand r m c → command_of r m ≡ Some c
met_some r m c h = ap (by_test r m) h.busy ∙ ap (option_map decoded) h.bytes_are ∙ ap (λ (d : Command). Some d) h.command

module _ (u : Plain) (its : ℕ) (r : Option TranslatorRef) (found : option_map translator_at r ≡ slice_get u.translators its) where
  pub here : (t : TranslatorRef) → r ≡ Some t → translator u its ≡ translator_at t
  here t is = found_at u.translators its (translator_at t) no_translator (sym found ∙ ap (option_map translator_at) is)

  pub nowhere : r ≡ None → translator u its ≡ no_translator
  nowhere is = not_found u.translators its no_translator (sym found ∙ ap (option_map translator_at) is)
