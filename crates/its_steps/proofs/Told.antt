-- What a step ends is told by its reply, and two states that agree on a call's footprint end the same.
use Rattle.std.proofs.Common.{◌≡◌, ℕ, Bool, true, false, not, ◌&&◌, ◌||◌, List, [], ◌∷◌, Option, Some, None, Result, Ok, Err, refl, ap, sym, ◌∙◌}
use Rattle.std.proofs.Common.{if◌then◌else◌}
use Rattle.guest_windows.specs.Windows.{read_at}
use Rattle.gits_regs.specs.Registers.{write_reg, queue_place, is_queue_empty}
use Rattle.its_command.specs.Commands.{decoded, op_of}
use Rattle.its_command.specs.declared.command.Command.{Command}
use Rattle.its_types.specs.Maps.{Maps as MapsOf}
use Rattle.its_types.specs.declared.machine.Part.{Part}
use Rattle.its_types.specs.declared.machine.Part.TheVariants as part
use Rattle.its_plain.specs.Answer.{reply_of, is_idle, next_bytes, met_reply, step_reply, command_reply}
use Rattle.its_plain.specs.Commands.{ran}
use Rattle.its_plain.specs.Parts.{AgreesOn, footprint, needed_next}
use Rattle.its_plain.specs.Plain.{Plain, Translator, translator, no_translator, maps_of}
use Rattle.its_plain.specs.declared.call.Call.TheVariants as call
use Rattle.its_plain.specs.declared.call.Reason.{Reason}
use Rattle.its_plain.specs.declared.call.Reply.{Reply}
use Rattle.its_plain.specs.declared.call.Reply.TheVariants as reply
use Rattle.its_plain.specs.declared.call.StepReply.{StepReply}
use Rattle.its_plain.specs.declared.call.StepReply.TheVariants.{Idle}
use Rattle.plain_footprint.proofs.Decided.{decides}
use Rattle.plain_footprint.proofs.Listed.{in_head, in_tail, same_or}
use Rattle.its_steps.specs.Endings.{Ending, Nothing, All, ending_ran, ending_met, ending_of, ending_told, EndingsAreAlike, RepliesTellEndings}

-- what a command ends is told by its reply
told_ran : (m : MapsOf) (c : Command) (r : Result Plain Reason) → ending_ran m c r ≡ ending_told m c (command_reply (op_of c) r)
told_ran m c (Ok after) = refl
told_ran m c (Err reason) = refl

-- what a step ends, told by the translator, the bytes that it meets, and its reply
abbrev told_step : Bool → Option (List ℕ) → MapsOf → StepReply → Ending
told_step true bytes m r = Nothing
told_step false None m r = Nothing
told_step false (Some bytes) m r = ending_told m (decoded bytes) r

told_met : (u : Plain) (i : ℕ) (idle : Bool) (bytes : Option (List ℕ)) → (if idle then Nothing else ending_met u i bytes) ≡ told_step idle bytes (maps_of u i)
    (if idle then Idle else met_reply u i bytes)
told_met u i true bytes = refl
told_met u i false None = refl
told_met u i false (Some bytes) = told_ran (maps_of u i) (decoded bytes) (ran u i (decoded bytes))

step_told : (u : Plain) (i : ℕ) → ending_of u (call.Step i) ≡ told_step (is_idle u i) (next_bytes u i) (maps_of u i) (step_reply u i)
unfolding ending_of step_reply
step_told u i = told_met u i (is_idle u i) (next_bytes u i)

pub told : RepliesTellEndings
told u its bytes busy there = step_told u its ∙ (λ d. told_step (busy d) (there d) (maps_of u its) (step_reply u its))

abbrev step_of : Reply → StepReply
step_of (reply.Step r) = r
step_of r = Idle

steps_alike : (u w : Plain) (its : ℕ) → AgreesOn u w (footprint u (call.Step its)) → step_reply u its ≡ step_reply w its
unfolding reply_of
steps_alike u w its same = ap step_of (decides u w (call.Step its) same).0

pub alike : EndingsAreAlike
unfolding ending_of footprint
alike u w (call.WriteReg its off size value) same =
    let t : translator u its ≡ translator w its = same_or u.translators w.translators its no_translator
    (same.parts (part.Maps its) (in_head (part.Maps its) [])) in
    ap (λ (x : Translator). if x.regs.enabled && not (write_reg x.regs off size value).regs.enabled then All else Nothing) t
alike u w (call.Step its) same =
    let ps : List Part = part.Mem ∷ needed_next u its in
    let t : translator u its ≡ translator w its = same_or u.translators w.translators its no_translator
    (same.parts (part.Maps its) (in_head (part.Maps its) ps)) in
    let m : u.memory ≡ w.memory = (same.parts part.Mem (in_tail part.Mem (part.Maps its) ps (in_head part.Mem (needed_next u its)))).0 in
    let r : step_reply u its ≡ step_reply w its = steps_alike u w its same in
    step_told u its ∙ ((λ d. told_step (not (t d).regs.enabled || is_queue_empty (t d).regs) (read_at (m d) (queue_place (t d).regs) 32) (t d).maps (r d))
    ∙ sym (step_told w its))
alike u w c same = refl
