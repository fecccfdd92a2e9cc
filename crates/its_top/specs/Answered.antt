-- What comes of a leg on a machine that threads share, and what was answered to what a source says.
use Rattle.std.specs.Prelude.{◌≡◌, ℕ, List, ◌++◌}
use Rattle.std.specs.String.{string_bytes}
use Rattle.its_plain.specs.Runs.{Leg}
use Rattle.event_script.specs.declared.script.Move.{Move}
use Rattle.its_words.specs.Help.{help_text, version_text}
use Rattle.its_top.specs.declared.command.Answer.{Answer}
use Rattle.its_top.specs.declared.command.Answer.TheVariants.{Answered, Helped, Refused, Versioned}
use Rattle.its_steps.specs.Parts.{Setup}
use Rattle.its_turns.specs.Machines.{setup}
use Rattle.its_turns.specs.declared.machine.Machine.{Machine}
use Rattle.its_top.specs.Played.{IsFresh}
use Rattle.its_answers.specs.Answered.{IsLegMoved, LegEnds, LegStops, refusal_text}
use Rattle.its_answers.specs.declared.ending.Ending.{Ending}
use Rattle.its_top.specs.declared.legs.Goes.{Goes}
use Rattle.its_top.specs.declared.legs.Goes.TheVariants.{On, Ends}
use Rattle.its_top.specs.declared.moves.Shared.{Shared}
use Rattle.its_answers.specs.declared.status.Status.{Status}
use Rattle.its_answers.specs.declared.status.Status.TheVariants as status

-- ---- a leg

-- the machine that the next leg starts with
pub record GoesOnWith (m : Machine) (next : Shared) : Type 0 where
  pub fresh : IsFresh next.machine next.root
  pub limits : (setup next.machine).limits ≡ (setup m).limits
  pub desc : next.machine.desc ≡ m.desc

-- what comes of one that isn't the last, on a machine that was made so: the run goes on, or it ends here
abbrev pub LegGoes : Machine → Leg → ℕ → Move → List ℕ → List ℕ → Goes → Type 0
LegGoes m leg number way old new (On next) = GoesOnWith m next
    × IsLegMoved way (setup m).limits.place_last (setup m).start (setup next.machine).start leg number old new
LegGoes m leg number way old new (Ends e) = LegStops (setup m).limits.place_last (setup m).start leg number old new e.status (string_bytes e.line)

abbrev pub LegIsLast : Setup → Leg → ℕ → List ℕ → List ℕ → Ending → Type 0
LegIsLast s leg number old new e = LegEnds s.limits.place_last s.start leg number old new e.status (string_bytes e.line)

-- ---- a source

-- a report and then the answer's line are caused so
abbrev pub AnswerIsCaused : (Status → List ℕ → Type 0) → List ℕ → Answer → Type 0
AnswerIsCaused causes report (Answered e) = causes e.status (report ++ string_bytes e.line)
AnswerIsCaused causes report Helped = causes status.Ok (report ++ help_text)
AnswerIsCaused causes report Versioned = causes status.Ok (report ++ version_text)
AnswerIsCaused causes report (Refused s) = causes s (report ++ refusal_text s)

-- the command may end well
abbrev pub MayEndWell : Answer → Type 0
MayEndWell (Answered e) = Unit {0}
MayEndWell Helped = Unit {0}
MayEndWell Versioned = Unit {0}
MayEndWell (Refused s) = s ≡ status.Ok
