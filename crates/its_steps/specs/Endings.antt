-- Which calls end translations that were current. With these the stamp rises or is renewed, or the pair's translation leaves its shard.
use Rattle.std.specs.Prelude.{◌≡◌, ◌≢◌, ℕ, not, ◌&&◌, if◌then◌else◌, false, Option, Some, None, is_some, Result, Ok, Err, List}
use Rattle.gits_regs.specs.Registers.{write_reg}
use Rattle.its_command.specs.Commands.{decoded}
use Rattle.its_command.specs.declared.command.Command.{Command}
use Rattle.its_command.specs.declared.command.Command.TheVariants as command
use Rattle.its_types.specs.Maps.{Maps, device_of, collection_of}
use Rattle.its_types.specs.declared.ids.Target.{Target}
use Rattle.its_plain.specs.Answer.{left, is_idle, next_bytes, step_reply}
use Rattle.its_plain.specs.Commands.{ran}
use Rattle.its_plain.specs.Parts.{AgreesOn, footprint}
use Rattle.its_plain.specs.Plain.{Plain, translator, regs_of, maps_of}
use Rattle.its_plain.specs.Translation.{located}
use Rattle.its_plain.specs.declared.call.Call.{Call}
use Rattle.its_plain.specs.declared.call.Call.TheVariants as call
use Rattle.its_plain.specs.declared.call.Reason.{Reason}
use Rattle.its_plain.specs.declared.call.Reply.{Reply}
use Rattle.its_plain.specs.declared.call.StepReply.{StepReply}
use Rattle.its_plain.specs.declared.call.StepReply.TheVariants as step
use Rattle.its_steps.specs.Contents.{Held}
use Rattle.its_steps.specs.MayCall.{IsWithout, AreSteady}
use Rattle.its_steps.specs.Parts.{Setup, HasAll}
use Rattle.its_steps.specs.Renewal.{its_of, renewal_in}
use Rattle.its_steps.specs.declared.commit.Commit.{Commit}

pub data Ending : Type 0 where
  -- none
  Nothing : Ending
  -- that of one pair
  Pair : ℕ → ℕ → Ending
  -- any of the translator's
  All : Ending

-- a command that runs
abbrev pub ending_in : Maps → Command → Ending
ending_in m (command.Mapd dev bits itt valid) = if is_some (device_of m dev.0) then All else Nothing
ending_in m (command.Mapc icid target valid) = if is_some (collection_of m icid.0) then All else Nothing
ending_in m (command.Movi dev ev icid) = Pair dev.0 ev.0
ending_in m (command.Discard dev ev) = Pair dev.0 ev.0
ending_in m c = Nothing

-- one that is refused ends none
abbrev pub ending_ran : Maps → Command → Result Plain Reason → Ending
ending_ran m c (Ok after) = ending_in m c
ending_ran m c (Err reason) = Nothing

abbrev pub ending_met : Plain → ℕ → Option (List ℕ) → Ending
ending_met u i None = Nothing
ending_met u i (Some bytes) = ending_ran (maps_of u i) (decoded bytes) (ran u i (decoded bytes))

-- a write does that turns the translator off
unfoldable pub ending_of : Plain → Call → Ending
ending_of u (call.WriteReg its off size value) = if (regs_of u its).enabled && not (write_reg (regs_of u its) off size value).regs.enabled then All else Nothing
ending_of u (call.Step its) = if is_idle u its then Nothing else ending_met u its (next_bytes u its)
ending_of u c = Nothing

abbrev pub Ends : Ending → ℕ → ℕ → Type 0
Ends Nothing dev ev = ⊥
Ends (Pair d e) dev ev = (dev ≡ d) × (ev ≡ e)
Ends All dev ev = Unit {0}

-- where the translator's maps sent an event they send it after, but for the ending; the others are the same
pub record Lasts (u w : Plain) (its : ℕ) (ending : Ending) : Type 0 where
  pub own : (dev ev : ℕ) (t : Target) → ¬ Ends ending dev ev → located (translator u its) dev ev ≡ Ok t → located (translator w its) dev ev ≡ Ok t
  pub others : (i : ℕ) → i ≢ its → translator u i ≡ translator w i

-- a call ends no more than this, in any state
abbrev pub EndingsAreAll : Type 0
EndingsAreAll = (u : Plain) (c : Call) (r : Reply) → Lasts u (left u c r) (its_of c) (ending_of u c)

-- Two states of one machine that agree on a call's footprint end the same
abbrev pub EndingsAreAlike : Type 0
EndingsAreAlike = (u w : Plain) (c : Call) → AgreesOn u w (footprint u c) → ending_of u c ≡ ending_of w c

-- what a step ends that met a command, told by its reply
abbrev pub ending_told : Maps → Command → StepReply → Ending
ending_told m c (step.Ran op) = ending_in m c
ending_told m c r = Nothing

abbrev pub RepliesTellEndings : Type 0
RepliesTellEndings = (u : Plain) (its : ℕ) (bytes : List ℕ) → is_idle u its ≡ false → next_bytes u its ≡ Some bytes → ending_of u (call.Step its) ≡ ending_told
    (maps_of u its) (decoded bytes) (step_reply u its)

-- what a commit needs with the stamp as it was, where a state has what is held: each translation that ends there has left its shard
abbrev pub EndingsAreDropped : Type 0
EndingsAreDropped = (s : Setup) (u : Plain) (a : Commit) (its : ℕ) (owed held : List Held) → HasAll u held
    → ((dev ev : ℕ) → its ≡ its_of a.call → Ends (ending_of u a.call) dev ev → IsWithout s its dev ev owed) → AreSteady s its owed held (renewal_in s u a held)
