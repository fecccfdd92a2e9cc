-- What is explained, by what a run or a check says.
use Rattle.std.proofs.Common.{◌≡◌, ℕ, List, [], ◌++◌, Option, Some, Result, Ok, Err, IfOk, refl, sym, subst, inl}
use Rattle.std.specs.String.{string_bytes}
use Rattle.its_plain.specs.Plain.{Plain}
use Rattle.its_plain.specs.Runs.{Leg}
use Rattle.event_script.specs.Script.{check_of}
use Rattle.event_script.specs.declared.fault.ScriptFault.{ScriptFault}
use Rattle.event_script.specs.declared.script.Script.{Script}
use Rattle.its_answers.specs.Answered.{InputCauses, IsLastLine, LegEnds, LegStops}
use Rattle.its_answers.specs.Checked.{CheckCauses, CheckSays}
use Rattle.its_answers.specs.Its.{BeginsSo, ExplainCauses, ExplainSays, ExplainsRead, ExplainsRun, IsMachineRefusal, IsScriptRefusal, RunCauses}
use Rattle.its_answers.specs.Streams.{WasRead}
use Rattle.its_answers.specs.declared.ending.Ending.{Ending}
use Rattle.its_answers.specs.declared.status.Status.{Status}
use Rattle.its_answers.specs.declared.status.Status.TheVariants as status

-- ---- the last line

pub stops_line : (last : ℕ) (u : Plain) (leg : Leg) (number : ℕ) (old new line : List ℕ) (s : Status) → LegStops last u leg number old new s line
    → IsLastLine s new line
stops_line last u leg number old new line status.Ok h = absurd h
stops_line last u leg number old new line status.ScriptRefused h = absurd h
stops_line last u leg number old new line status.WordsRefused h = absurd h
stops_line last u leg number old new line status.ReadFault h = absurd h
stops_line last u leg number old new line status.WriteFault h = absurd h
stops_line last u leg number old new line status.Memory h = absurd h
stops_line last u leg number old new line status.MachineRefused h = absurd h
stops_line last u leg number old new line status.MigrationRefused h = (number, (h.fault, h.line_is))
stops_line last u leg number old new line status.Spent h = (number, h.line_is)
stops_line last u leg number old new line status.TooLong h = absurd h
stops_line last u leg number old new line status.TraceDiffers h = absurd h
stops_line last u leg number old new line status.BadTrace h = absurd h
stops_line last u leg number old new line status.Undecided h = absurd h

pub ends_line : (last : ℕ) (u : Plain) (leg : Leg) (number : ℕ) (old new line : List ℕ) (s : Status) → LegEnds last u leg number old new s line
    → IsLastLine s new line
ends_line last u leg number old new line status.Ok h = tt
ends_line last u leg number old new line status.ScriptRefused h = absurd h
ends_line last u leg number old new line status.WordsRefused h = absurd h
ends_line last u leg number old new line status.ReadFault h = absurd h
ends_line last u leg number old new line status.WriteFault h = absurd h
ends_line last u leg number old new line status.Memory h = absurd h
ends_line last u leg number old new line status.MachineRefused h = absurd h
ends_line last u leg number old new line status.MigrationRefused h = absurd h
ends_line last u leg number old new line status.Spent h = (number, h.line_is)
ends_line last u leg number old new line status.TooLong h = absurd h
ends_line last u leg number old new line status.TraceDiffers h = absurd h
ends_line last u leg number old new line status.BadTrace h = absurd h
ends_line last u leg number old new line status.Undecided h = absurd h

-- ---- a run

alone : (Says : List ℕ → Type 0) (report line more : List ℕ) → Says (report ++ line) → report ≡ [] → BeginsSo Says (line ++ more)
alone Says report line more h none = record {
  line = line;
  more = more;
  says = subst (λ (r : List ℕ). Says (r ++ line)) none h;
  same = refl;
}

pub explains_run : (input report line more : List ℕ) (s : Status) → InputCauses input s (report ++ line) → IsLastLine s report line
    → ExplainsRun input s (line ++ more)
explains_run input report line more status.Ok h last = (report ++ line, h)
explains_run input report line more status.ScriptRefused h last = alone (IsScriptRefusal input) report line more h last
explains_run input report line more status.WordsRefused h last = absurd h
explains_run input report line more status.ReadFault h last = absurd h
explains_run input report line more status.WriteFault h last = absurd h
explains_run input report line more status.Memory h last = absurd h
explains_run input report line more status.MachineRefused h last = alone (IsMachineRefusal input) report line more h last
explains_run input report line more status.MigrationRefused h last = record { report = report; line = line; more = more; says = h; is_line = last; same = refl }
explains_run input report line more status.Spent h last = record { report = report; line = line; more = more; says = h; is_line = last; same = refl }
explains_run input report line more status.TooLong h last = absurd h
explains_run input report line more status.TraceDiffers h last = absurd h
explains_run input report line more status.BadTrace h last = absurd h
explains_run input report line more status.Undecided h last = absurd h

-- the same of a text that begins so
pub explains_text : (input report line more text : List ℕ) (s : Status) → text ≡ line ++ more → InputCauses input s (report ++ line) → IsLastLine s report line
    → ExplainsRun input s text
explains_text input report line more text s is h last = subst (λ (t : List ℕ). ExplainsRun input s t) (sym is) (explains_run input report line more s h last)

-- ---- a check

pub begins_so : (input line more text : List ℕ) (s : Status) → text ≡ line ++ more → CheckSays input s line → BeginsSo (CheckSays input s) text
begins_so input line more text s is h = record { line = line; more = more; says = h; same = is }

-- ---- either

abbrev Read : Type 0
Read = Result (Script × List (List ℕ)) ScriptFault

pub says_checked : {E : Type 0} (input : List ℕ) (p : Script × List (List ℕ)) (r : Result Ending E) → check_of input ≡ Ok p
    → IfOk r (λ e. BeginsSo (CheckSays input e.status) (string_bytes e.line)) → IfOk r (λ e. ExplainSays input e.status (string_bytes e.line))
says_checked input p (Ok e) is h = subst (λ (r : Read). ExplainsRead r input e.status (string_bytes e.line)) (sym is) h
says_checked input p (Err x) is h = tt

pub says_played : {E : Type 0} (input : List ℕ) (fault : ScriptFault) (r : Result Ending E) → check_of input ≡ Err fault
    → IfOk r (λ e. ExplainsRun input e.status (string_bytes e.line)) → IfOk r (λ e. ExplainSays input e.status (string_bytes e.line))
says_played input fault (Ok e) is h = subst (λ (r : Read). ExplainsRead r input e.status (string_bytes e.line)) (sym is) h
says_played input fault (Err x) is h = tt

-- ---- by what was read

never : (input text : List ℕ) (s : Status) → ((line : List ℕ) → CheckSays input s line → ⊥) → (ExplainsRun input s text → ⊥)
    → (r : Result (Script × List (List ℕ)) ScriptFault) → ExplainsRead r input s text → ⊥
never input text s check run (Ok read) h = check h.line h.says
never input text s check run (Err fault) h = run h

pub explained_causes : (told : Option (List ℕ)) (rose : Type 0) (input : List ℕ) (s : Status) (text : List ℕ) → WasRead told input → ExplainSays input s text
    → ExplainCauses told rose s text
explained_causes told rose input status.Ok text was h = (input, (was, h))
explained_causes told rose input status.ScriptRefused text was h = (input, (was, h))
explained_causes told rose input status.WordsRefused text was h = absurd (never input text status.WordsRefused (λ line x. x) (λ x. x) (check_of input) h)
explained_causes told rose input status.ReadFault text was h = absurd (never input text status.ReadFault (λ line x. x) (λ x. x) (check_of input) h)
explained_causes told rose input status.WriteFault text was h = absurd (never input text status.WriteFault (λ line x. x) (λ x. x) (check_of input) h)
explained_causes told rose input status.Memory text was h = absurd (never input text status.Memory (λ line x. x) (λ x. x) (check_of input) h)
explained_causes told rose input status.MachineRefused text was h = (input, (was, h))
explained_causes told rose input status.MigrationRefused text was h = (input, (was, h))
explained_causes told rose input status.Spent text was h = (input, (was, h))
explained_causes told rose input status.TooLong text was h = absurd (never input text status.TooLong (λ line x. x) (λ x. x) (check_of input) h)
explained_causes told rose input status.TraceDiffers text was h = (input, (was, h))
explained_causes told rose input status.BadTrace text was h = (input, (was, h))
explained_causes told rose input status.Undecided text was h = absurd (never input text status.Undecided (λ line x. x) (λ x. x) (check_of input) h)

-- what was read is the input

run_says : (input read text : List ℕ) (s : Status) (fault : ScriptFault) → WasRead (Some input) read → ExplainSays read s text → check_of input ≡ Err fault
    → ExplainsRun read s text
run_says input read text s fault was says e =
    let is : check_of read ≡ Err fault = subst (λ (i : List ℕ). check_of i ≡ Err fault) was.whole e in
    subst (λ (r : Result (Script × List (List ℕ)) ScriptFault). ExplainsRead r read s text) is says

check_says : (input read text : List ℕ) (s : Status) (p : Script × List (List ℕ)) → WasRead (Some input) read → ExplainSays read s text → check_of input ≡ Ok p
    → BeginsSo (CheckSays read s) text
check_says input read text s p was says e =
    let is : check_of read ≡ Ok p = subst (λ (i : List ℕ). check_of i ≡ Ok p) was.whole e in
    subst (λ (r : Result (Script × List (List ℕ)) ScriptFault). ExplainsRead r read s text) is says

abbrev RunCaused : List ℕ → Type 0 → Status → Type 0
RunCaused input rose s = (said : List ℕ) × RunCauses (Some input) rose s said

abbrev CheckCaused : List ℕ → Type 0 → Status → Type 0
CheckCaused input rose s = (said : List ℕ) × CheckCauses (Some input) rose s said

-- a run has a text with this status
pub as_run : (input : List ℕ) (rose : Type 0) (s : Status) (text : List ℕ) → ExplainCauses (Some input) rose s text → (fault : ScriptFault)
    → check_of input ≡ Err fault → RunCaused input rose s
as_run input rose status.Ok text h fault e = let r = run_says input h.0 text status.Ok fault h.1.0 h.1.1 e in (r.0, (h.0, (h.1.0, r.1)))
as_run input rose status.ScriptRefused text h fault e = let r = run_says input h.0 text status.ScriptRefused fault h.1.0 h.1.1 e in (r.line, (h.0, (h.1.0, r.says)))
as_run input rose status.WordsRefused text h fault e = absurd h
as_run input rose status.ReadFault text h fault e = (text, h)
as_run input rose status.WriteFault text h fault e = absurd h
as_run input rose status.Memory text h fault e = (text, inl h)
as_run input rose status.MachineRefused text h fault e = let r = run_says input h.0 text status.MachineRefused fault h.1.0 h.1.1 e in (r.line, (h.0, (h.1.0, r.says)))
as_run input rose status.MigrationRefused text h fault e = let r = run_says input h.0 text status.MigrationRefused fault h.1.0 h.1.1 e in (r.report ++ r.line, (h.0, (h.1.0, r.says)))
as_run input rose status.Spent text h fault e = let r = run_says input h.0 text status.Spent fault h.1.0 h.1.1 e in (r.report ++ r.line, (h.0, (h.1.0, r.says)))
as_run input rose status.TooLong text h fault e = (text, h)
as_run input rose status.TraceDiffers text h fault e = absurd (run_says input h.0 text status.TraceDiffers fault h.1.0 h.1.1 e)
as_run input rose status.BadTrace text h fault e = absurd (run_says input h.0 text status.BadTrace fault h.1.0 h.1.1 e)
as_run input rose status.Undecided text h fault e = absurd h

-- and so has a check
pub as_check : (input : List ℕ) (rose : Type 0) (s : Status) (text : List ℕ) → ExplainCauses (Some input) rose s text → (p : Script × List (List ℕ))
    → check_of input ≡ Ok p → CheckCaused input rose s
as_check input rose status.Ok text h p e = let b = check_says input h.0 text status.Ok p h.1.0 h.1.1 e in (b.line, (h.0, (h.1.0, b.says)))
as_check input rose status.ScriptRefused text h p e = let b = check_says input h.0 text status.ScriptRefused p h.1.0 h.1.1 e in (b.line, (h.0, (h.1.0, b.says)))
as_check input rose status.WordsRefused text h p e = absurd h
as_check input rose status.ReadFault text h p e = (text, h)
as_check input rose status.WriteFault text h p e = absurd h
as_check input rose status.Memory text h p e = (text, h)
as_check input rose status.MachineRefused text h p e = let b = check_says input h.0 text status.MachineRefused p h.1.0 h.1.1 e in (b.line, (h.0, (h.1.0, b.says)))
as_check input rose status.MigrationRefused text h p e = absurd (check_says input h.0 text status.MigrationRefused p h.1.0 h.1.1 e).says
as_check input rose status.Spent text h p e = absurd (check_says input h.0 text status.Spent p h.1.0 h.1.1 e).says
as_check input rose status.TooLong text h p e = (text, h)
as_check input rose status.TraceDiffers text h p e = let b = check_says input h.0 text status.TraceDiffers p h.1.0 h.1.1 e in (b.line, (h.0, (h.1.0, b.says)))
as_check input rose status.BadTrace text h p e = let b = check_says input h.0 text status.BadTrace p h.1.0 h.1.1 e in (b.line, (h.0, (h.1.0, b.says)))
as_check input rose status.Undecided text h p e = absurd h
