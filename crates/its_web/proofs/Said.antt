-- What the answers' laws say, of the page's functions.
use Rattle.std.proofs.Common.{◌≡◌, ◌<◌, ◌≤◌, ℕ, List, ◌++◌, length, Some, Result, Ok, Err, IfOk, refl, sym, subst}
use Rattle.std.specs.String.{string_bytes}
use Rattle.its_plain.specs.Plain.{Plain}
use Rattle.its_plain.specs.Runs.{Leg}
use Rattle.event_script.specs.Script.{check_of}
use Rattle.event_script.specs.declared.fault.ScriptFault.{ScriptFault}
use Rattle.event_script.specs.declared.script.Script.{Script}
use Rattle.its_answers.specs.Answered.{InputCauses, IsLastLine, IsLegSpent, LegEnds, LegStops, refusal_text}
use Rattle.its_answers.specs.Checked.{CheckCauses, CheckSays}
use Rattle.its_answers.specs.Its.{BeginsSo, ExplainCauses, ExplainSays, ExplainsRun, RunCauses}
use Rattle.its_answers.specs.declared.ending.Ending.{Ending}
use Rattle.its_answers.specs.declared.status.Status.{Status}
use Rattle.its_answers.specs.declared.status.Status.TheVariants as status
use Rattle.its_answers.proofs.Causes.{read_causes, said_causes}
use Rattle.its_answers.proofs.Explained as explained
use Rattle.its_answers.proofs.Told as told_leg

-- ---- of bytes that are all there are

pub run_said : (input : List ℕ) (s : Status) (text : List ℕ) → length input ≤ 16777216 → InputCauses input s text → RunCauses (Some input) ⊥ s text
run_said input s text short h = read_causes (Some input) ⊥ input s text (record { whole = refl; short = short }) h

pub check_said : (input : List ℕ) (s : Status) (text : List ℕ) → length input ≤ 16777216 → CheckSays input s text → CheckCauses (Some input) ⊥ s text
check_said input s text short h = said_causes (Some input) ⊥ input s text (record { whole = refl; short = short }) h

pub explain_said : (input : List ℕ) (s : Status) (text : List ℕ) → length input ≤ 16777216 → ExplainSays input s text → ExplainCauses (Some input) ⊥ s text
explain_said input s text short h = explained.explained_causes (Some input) ⊥ input s text (record { whole = refl; short = short }) h

pub run_long : (input : List ℕ) → 16777216 < length input → RunCauses (Some input) ⊥ status.TooLong (refusal_text status.TooLong)
run_long input long = (long, refl)

pub check_long : (input : List ℕ) → 16777216 < length input → CheckCauses (Some input) ⊥ status.TooLong (refusal_text status.TooLong)
check_long input long = (long, refl)

pub explain_long : (input : List ℕ) → 16777216 < length input → ExplainCauses (Some input) ⊥ status.TooLong (refusal_text status.TooLong)
explain_long input long = (long, refl)

-- a report with the line after it
pub with_line : (input old line new : List ℕ) (s : Status) → new ≡ old ++ line → InputCauses input s (old ++ line) → InputCauses input s new
with_line input old line new s is h = subst (λ (t : List ℕ). InputCauses input s t) (sym is) h

-- ---- of some bytes

pub explains_text : (input report line more text : List ℕ) (s : Status) → text ≡ line ++ more → InputCauses input s (report ++ line) → IsLastLine s report line
    → ExplainsRun input s text
explains_text input report line more text s is h last = explained.explains_text input report line more text s is h last

pub begins_so : (input line more text : List ℕ) (s : Status) → text ≡ line ++ more → CheckSays input s line → BeginsSo (CheckSays input s) text
begins_so input line more text s is h = explained.begins_so input line more text s is h

pub says_checked : {E : Type 0} (input : List ℕ) (p : Script × List (List ℕ)) (r : Result Ending E) → check_of input ≡ Ok p
    → IfOk r (λ e. BeginsSo (CheckSays input e.status) (string_bytes e.line)) → IfOk r (λ e. ExplainSays input e.status (string_bytes e.line))
says_checked input p r is h = explained.says_checked input p r is h

pub says_played : {E : Type 0} (input : List ℕ) (fault : ScriptFault) (r : Result Ending E) → check_of input ≡ Err fault
    → IfOk r (λ e. ExplainsRun input e.status (string_bytes e.line)) → IfOk r (λ e. ExplainSays input e.status (string_bytes e.line))
says_played input fault r is h = explained.says_played input fault r is h

-- ---- of a leg without a place left

pub spent_stops : (last : ℕ) (before : Plain) (leg : Leg) (number : ℕ) (old new line : List ℕ) (s : Status) → s ≡ status.Spent
    → IsLegSpent last before leg number old new line → LegStops last before leg number old new s line
spent_stops last before leg number old new line s is h = told_leg.spent_stops last before leg number old new line s is h

pub spent_ends : (last : ℕ) (before : Plain) (leg : Leg) (number : ℕ) (old new line : List ℕ) (s : Status) → s ≡ status.Spent
    → IsLegSpent last before leg number old new line → LegEnds last before leg number old new s line
spent_ends last before leg number old new line s is h = told_leg.spent_ends last before leg number old new line s is h
