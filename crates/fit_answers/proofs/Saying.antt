-- What was said of a phase, said of the bytes; what is well formed is answered.
use Rattle.std.proofs.Common.{◌≡◌, ℕ, List, [], ◌∷◌, length, Option, Result, Ok, Err, IfOk, refl, sym, ap, subst, ◌∙◌, inl, inr}
use Rattle.std.specs.String.{string_bytes}
use Rattle.its_plain.specs.Runs.{Phase}
use Rattle.its_plain.specs.declared.desc.DescFault.{DescFault}
use Rattle.its_plain.specs.Described.{IsFirstState, IsMadeFrom, IsRefused}
use Rattle.its_plain.specs.declared.desc.Desc.{Desc}
use Rattle.its_plain.specs.declared.make.MakeError.{MakeError}
use Rattle.its_plain.specs.declared.make.MakeError.TheVariants as making
use Rattle.its_plain.specs.Plain.{Plain}
use Rattle.event_script.specs.Script.{check_of, FailsAs}
use Rattle.event_script.specs.declared.fault.ParseError.{ParseError}
use Rattle.event_script.specs.declared.fault.ParseError.TheVariants as parsing
use Rattle.event_script.specs.Text.{parts}
use Rattle.event_script.specs.declared.fault.ScriptFault.{ScriptFault}
use Rattle.event_script.specs.declared.script.Script.{Script}
use Rattle.its_answers.proofs.Once.{made_once, not_both, same_ok}
use Rattle.its_history.specs.declared.reading.TraceError.{TraceError}
use Rattle.its_history.specs.declared.reading.TraceError.TheVariants as trace
use Rattle.its_answers.specs.Compared.{IsBadEnding}
use Rattle.its_answers.specs.declared.ending.Ending.{Ending}
use Rattle.its_answers.specs.Checked.{IsCheckInput, IsNoMachine, IsNoScript}
use Rattle.its_answers.specs.Streams.{WasRead}
use Rattle.its_answers.specs.declared.status.Status.{Status}
use Rattle.its_answers.specs.declared.status.Status.TheVariants as status
use Rattle.its_fit.proofs.Lists.{head_is}
use Rattle.its_fit.specs.declared.told.Told.{Told}
use Rattle.fit_answers.specs.ToldText.{IsToldAs, told_from, told_of}
use Rattle.fit_answers.specs.FitSays.{AllHaveAll, FitCauses, FitSays, HasBadLine, HasManyPhases, IsAnswered, IsBadTold, IsFitInput}
use Rattle.fit_answers.specs.FitSays.{IsOnePhase, IsUnevenInput, OfTold, ScriptSays, ToldSays}

-- ---- errors, by their faults

pub refused_as : (d : Desc) (e : MakeError) (fault : DescFault) → e ≡ making.Fault fault → IsMadeFrom d (Err e) → IsRefused d fault
refused_as d e fault is h = subst (λ (x : MakeError). IsMadeFrom d (Err x)) is h

pub failed_as : (input : List ℕ) (e : ParseError) (fault : ScriptFault) → e ≡ parsing.Fault fault → FailsAs e (check_of input) → check_of input ≡ Err fault
failed_as input e fault is h = subst (λ (x : ParseError). FailsAs x (check_of input)) is h

-- ---- what was said of a phase

pub of_told : (bound : ℕ) (s : Status) (input text : List ℕ) (script : Script) (calls : Phase) (told : Told) → IsFitInput input script calls told
    → ToldSays script.desc calls told bound s text → FitSays input bound s text
of_told bound status.Ok input text script calls told is h = record { script = script; calls = calls; told = told; is_input = is; says = h }
of_told bound status.ScriptRefused input text script calls told is h = absurd h
of_told bound status.WordsRefused input text script calls told is h = absurd h
of_told bound status.ReadFault input text script calls told is h = absurd h
of_told bound status.WriteFault input text script calls told is h = absurd h
of_told bound status.Memory input text script calls told is h = absurd h
of_told bound status.MachineRefused input text script calls told is h = absurd h
of_told bound status.MigrationRefused input text script calls told is h = absurd h
of_told bound status.Spent input text script calls told is h = absurd h
of_told bound status.TooLong input text script calls told is h = absurd h
of_told bound status.TraceDiffers input text script calls told is h = record { script = script; calls = calls; told = told; is_input = is; says = h }
of_told bound status.BadTrace input text script calls told is h = absurd h
of_told bound status.Undecided input text script calls told is h = record { script = script; calls = calls; told = told; is_input = is; says = h }

-- what was told wasn't read
pub bad_line : {E : Type 0} (script : Script) (calls : Phase) (report : List ℕ) (bound : ℕ) (error : TraceError) (result : Result Ending E)
    → script.legs ≡ (calls ∷ []) ∷ [] → IsToldAs (Err error) (told_of (length calls) script.desc.shape.vcpus report)
    → IfOk result (λ e. IsBadEnding error e.status (string_bytes e.line)) → IfOk result (λ e. ScriptSays script report bound e.status (string_bytes e.line))
bad_line script calls report bound (trace.BadLine line) (Ok e) one read is =
    subst (λ (s : Status). ScriptSays script report bound s (string_bytes e.line)) (sym is.0) (λ input first it. inr (inl (record {
      script = script;
      calls = calls;
      report = report;
      is_phase = record { first = first; is_input = it; one = one };
      line = line;
      is_bad = read;
      text_is = is.1;
    })))
bad_line script calls report bound trace.NoMemory (Ok e) one read is = absurd is
bad_line script calls report bound error (Err x) one read is = tt

-- ---- the bytes are one script, and one report

abbrev read_of : Script → List ℕ → Script × List (List ℕ)
read_of script report = (script, parts report)

module _ (input : List ℕ) (script script' : Script) (calls calls' : Phase) (report report' : List ℕ) (a : IsOnePhase input script calls report)
    (b : IsOnePhase input script' calls' report') where
  same_read : read_of script' report' ≡ read_of script report
  same_read = same_ok (check_of input) (script', parts report') (script, parts report) b.is_input.read a.is_input.read

  scripts : script' ≡ script
  scripts = ap (λ (p : Script × List (List ℕ)). p.0) same_read

  lines : parts report' ≡ parts report
  lines = ap (λ (p : Script × List (List ℕ)). p.1) same_read

  same_calls : calls' ≡ calls
  same_calls = head_is (head_is (sym b.one ∙ ap (λ (s : Script). s.legs) scripts ∙ a.one))

  told_same : told_of (length calls') script'.desc.shape.vcpus report' ≡ told_of (length calls) script.desc.shape.vcpus report
  told_same =
      ap (λ (n : ℕ). told_from n script'.desc.shape.vcpus (parts report')) (ap (λ (cs : Phase). length cs) same_calls)
      ∙ ap (λ (s : Script). told_from (length calls) s.desc.shape.vcpus (parts report')) scripts
      ∙ ap (λ (ps : List (List ℕ)). told_from (length calls) script.desc.shape.vcpus ps) lines

module _ (input text : List ℕ) (script : Script) (calls : Phase) (told : Told) (is : IsFitInput input script calls told) where
  not_many : HasManyPhases input text → ⊥
  not_many h =
      let read = same_ok (check_of input) (script, parts is.report) (h.script, parts h.report) is.is_phase.is_input.read h.is_input.read in
      h.many calls (sym (ap (λ (p : Script × List (List ℕ)). p.0.legs) read) ∙ is.is_phase.one)

  not_bad : HasBadLine input text → ⊥
  not_bad h =
      not_both (told_of (length calls) script.desc.shape.vcpus is.report) told h.line is.is_told
      (sym (told_same input script h.script calls h.calls is.report h.report is.is_phase h.is_phase) ∙ h.is_bad)

  not_uneven : IsUnevenInput input text → ⊥
  not_uneven h =
      let one : h.told ≡ told = same_ok (told_of (length calls) script.desc.shape.vcpus is.report) h.told told
      (sym (told_same input script h.script calls h.calls is.report h.report is.is_phase h.is_phase) ∙ h.is_told) is.is_told in
      let both : h.calls ≡ calls = same_calls input script h.script calls h.calls is.report h.report is.is_phase h.is_phase in
      let all : AllHaveAll h.calls h.told.threads = subst (λ (t : Told). AllHaveAll h.calls t.threads) (sym one)
      (subst (λ (cs : Phase). AllHaveAll cs told.threads) (sym both) is.all) in
      h.uneven.uneven (all h.uneven.thread h.uneven.below)

  not_refused : IsBadTold input text → ⊥
  not_refused h = elim h [ inl many ↦ not_many many | inr bad ↦ elim bad [ inl line ↦ not_bad line | inr uneven ↦ not_uneven uneven ] ]

  has_script : IsNoScript input text → ⊥
  has_script h = not_both (check_of input) (script, parts is.report) h.fault is.is_phase.is_input.read h.read

  has_machine : IsNoMachine input text → ⊥
  has_machine h =
      let read = same_ok (check_of input) (script, parts is.report) (h.script, h.lines) is.is_phase.is_input.read h.read in
      let starts : IsFirstState h.script.desc is.is_phase.first =
      subst (λ (s : Script). IsFirstState s.desc is.is_phase.first) (ap (λ (p : Script × List (List ℕ)). p.0) read) is.is_phase.is_input.starts in
      made_once h.script.desc is.is_phase.first h.fault starts h.refused

-- what is well formed is answered
pub answered : (input : List ℕ) (bound : ℕ) (s : Status) (text : List ℕ) → FitSays input bound s text → IsAnswered input s
answered input bound status.Ok text h = λ script calls told is. tt
answered input bound status.ScriptRefused text h = λ script calls told is. absurd (has_script input text script calls told is h)
answered input bound status.WordsRefused text h = absurd h.says
answered input bound status.ReadFault text h = absurd h.says
answered input bound status.WriteFault text h = absurd h.says
answered input bound status.Memory text h = absurd h.says
answered input bound status.MachineRefused text h = λ script calls told is. absurd (has_machine input text script calls told is h)
answered input bound status.MigrationRefused text h = absurd h.says
answered input bound status.Spent text h = absurd h.says
answered input bound status.TooLong text h = absurd h.says
answered input bound status.TraceDiffers text h = λ script calls told is. tt
answered input bound status.BadTrace text h = λ script calls told is. absurd (not_refused input text script calls told is h)
answered input bound status.Undecided text h = λ script calls told is. tt

-- ---- each status has its cause

-- what holds of the status, whatever was said
abbrev Cases : List ℕ → ℕ → List ℕ → Status → Type 0
Cases input bound text expected =
    (IsNoScript input text → status.ScriptRefused ≡ expected)
    × (IsNoMachine input text → status.MachineRefused ≡ expected)
    × (IsBadTold input text → status.BadTrace ≡ expected)
    × ((t : Status) → OfTold bound t input text → t ≡ expected)

ends_so : (input : List ℕ) (bound : ℕ) (s : Status) (text : List ℕ) (expected : Status) → Cases input bound text expected → FitSays input bound s text
    → s ≡ expected
ends_so input bound status.Ok text expected by h = by.3 status.Ok h
ends_so input bound status.ScriptRefused text expected by h = by.0 h
ends_so input bound status.WordsRefused text expected by h = by.3 status.WordsRefused h
ends_so input bound status.ReadFault text expected by h = by.3 status.ReadFault h
ends_so input bound status.WriteFault text expected by h = by.3 status.WriteFault h
ends_so input bound status.Memory text expected by h = by.3 status.Memory h
ends_so input bound status.MachineRefused text expected by h = by.1 h
ends_so input bound status.MigrationRefused text expected by h = by.3 status.MigrationRefused h
ends_so input bound status.Spent text expected by h = by.3 status.Spent h
ends_so input bound status.TooLong text expected by h = by.3 status.TooLong h
ends_so input bound status.TraceDiffers text expected by h = by.3 status.TraceDiffers h
ends_so input bound status.BadTrace text expected by h = by.2 h
ends_so input bound status.Undecided text expected by h = by.3 status.Undecided h

-- what is refused as told so has a script and a first state
told_input : {X : Type 0} (input text : List ℕ) → ((script : Script) (first : Plain) (report : List ℕ) → IsCheckInput input script first report → X)
    → IsBadTold input text → X
told_input input text tell h = elim h [
  | inl many ↦ tell many.script many.first many.report many.is_input
  | inr bad ↦ elim bad [
    | inl line ↦ tell line.script line.is_phase.first line.report line.is_phase.is_input
    | inr uneven ↦ tell uneven.script uneven.is_phase.first uneven.report uneven.is_phase.is_input
  ]
]

-- bytes that are a script, and no script
both_read : {X : Type 0} (input : List ℕ) (script : Script) (first : Plain) (report : List ℕ) (fault : ScriptFault) → IsCheckInput input script first report
    → check_of input ≡ Err fault → X
both_read input script first report fault is e = not_both (check_of input) (script, parts report) fault is.read e

-- a script whose machine is made, and refused
both_made : {X : Type 0} (input : List ℕ) (script : Script) (first : Plain) (report : List ℕ) → IsCheckInput input script first report → (other : Script)
    (lines : List (List ℕ)) (fault : DescFault) → check_of input ≡ Ok (other, lines) → IsRefused other.desc fault → X
both_made input script first report is other lines fault read refused =
    let same = same_ok (check_of input) (script, parts report) (other, lines) is.read read in
    let starts : IsFirstState other.desc first =
    subst (λ (s : Script). IsFirstState s.desc first) (ap (λ (p : Script × List (List ℕ)). p.0) same) is.starts in
    made_once other.desc first fault starts refused

pub fault_ends : (input : List ℕ) (bound : ℕ) (s : Status) (text : List ℕ) (fault : ScriptFault) → check_of input ≡ Err fault → FitSays input bound s text
    → s ≡ status.ScriptRefused
fault_ends input bound s text fault e h = ends_so input bound s text status.ScriptRefused (
  λ n. refl,
  λ m. not_both (check_of input) (m.script, m.lines) fault m.read e,
  λ b. told_input input text (λ script first report is. both_read input script first report fault is e) b,
  λ t o. both_read input o.script o.is_input.is_phase.first o.is_input.report fault o.is_input.is_phase.is_input e,
) h

pub machine_ends : (input : List ℕ) (bound : ℕ) (s : Status) (text : List ℕ) (script : Script) (lines : List (List ℕ)) (fault : DescFault)
    → check_of input ≡ Ok (script, lines) → IsRefused script.desc fault → FitSays input bound s text → s ≡ status.MachineRefused
machine_ends input bound s text script lines fault read refused h = ends_so input bound s text status.MachineRefused (
  λ n. not_both (check_of input) (script, lines) n.fault read n.read,
  λ m. refl,
  λ b. told_input input text (λ other first report is. both_made input other first report is script lines fault read refused) b,
  λ t o. both_made input o.script o.is_input.is_phase.first o.is_input.report o.is_input.is_phase.is_input script lines fault read refused,
) h

pub bad_ends : (input : List ℕ) (bound : ℕ) (s : Status) (text other : List ℕ) → IsBadTold input other → FitSays input bound s text → s ≡ status.BadTrace
bad_ends input bound s text other bad h = ends_so input bound s text status.BadTrace (
  λ n. told_input input other (λ script first report is. both_read input script first report n.fault is n.read) bad,
  λ m. told_input input other (λ script first report is. both_made input script first report is m.script m.lines m.fault m.read m.refused) bad,
  λ b. refl,
  λ t o. absurd (not_refused input other o.script o.calls o.told o.is_input bad),
) h

-- ---- of a source

pub fit_causes : (told : Option (List ℕ)) (rose : Type 0) (bound : ℕ) (input : List ℕ) (s : Status) (text : List ℕ) → WasRead told input
    → FitSays input bound s text → FitCauses bound told rose s text
fit_causes told rose bound input status.Ok text was h = (input, (was, h))
fit_causes told rose bound input status.ScriptRefused text was h = (input, (was, h))
fit_causes told rose bound input status.WordsRefused text was h = (input, (was, h))
fit_causes told rose bound input status.ReadFault text was h = absurd h.says
fit_causes told rose bound input status.WriteFault text was h = (input, (was, h))
fit_causes told rose bound input status.Memory text was h = absurd h.says
fit_causes told rose bound input status.MachineRefused text was h = (input, (was, h))
fit_causes told rose bound input status.MigrationRefused text was h = (input, (was, h))
fit_causes told rose bound input status.Spent text was h = (input, (was, h))
fit_causes told rose bound input status.TooLong text was h = absurd h.says
fit_causes told rose bound input status.TraceDiffers text was h = (input, (was, h))
fit_causes told rose bound input status.BadTrace text was h = (input, (was, h))
fit_causes told rose bound input status.Undecided text was h = (input, (was, h))

pub no_script : (input : List ℕ) (fault : ScriptFault) → check_of input ≡ Err fault → IsAnswered input status.ScriptRefused
no_script input fault e = λ script calls told is. not_both (check_of input) (script, parts is.report) fault is.is_phase.is_input.read e
