-- What a check that agrees says of the script that it read.
use Rattle.std.proofs.Common.{◌≡◌, ℕ, Bool, List, length, Result, Ok, Err, IfOk, refl, ap, sym, subst, ◌∙◌}
use Rattle.event_script.proofs.Bounds.{checked_scripts_fit}
use Rattle.event_script.specs.Limits.{IsWithinLimits}
use Rattle.event_script.specs.Script.{check_of, FailsAs}
use Rattle.event_script.specs.Text.{parts}
use Rattle.event_script.specs.declared.fault.ScriptFault.{ScriptFault}
use Rattle.event_script.specs.declared.fault.ParseError.{ParseError}
use Rattle.event_script.specs.declared.fault.ParseError.TheVariants as parsing
use Rattle.event_script.specs.declared.script.Script.{Script}
use Rattle.its_plain.specs.Described.{IsFirstState, IsMadeFrom, IsRefused}
use Rattle.its_plain.specs.Plain.{Plain}
use Rattle.its_plain.specs.Runs.{IsRun}
use Rattle.its_plain.specs.declared.call.Entry.{Entry}
use Rattle.its_plain.specs.declared.desc.DescFault.{DescFault}
use Rattle.its_plain.specs.declared.make.MakeError.{MakeError}
use Rattle.its_plain.specs.declared.make.MakeError.TheVariants as making
use Rattle.its_answers.proofs.Once.{made_once, not_both, same_ok}
use Rattle.its_answers.specs.Agreed.{IsAgreed, StartsWell}
use Rattle.its_answers.specs.Checked.{CheckSays, read_report}
use Rattle.its_answers.specs.declared.status.Status.{Status}
use Rattle.its_answers.specs.declared.status.Status.TheVariants as status
use Rattle.its_answers.specs.Legs.{all_told}
use Rattle.its_history.specs.Reading.{trace_of}
use Rattle.its_history.specs.declared.reading.TraceError.TheVariants as reading
use Rattle.trace_check.specs.Verdicts.{copies_of}

-- a check that agrees says one line
pub agreed : (input line : List ℕ) → (h : CheckSays input status.Ok line) → IsAgreed input
agreed input line h = subst (CheckSays input status.Ok) h.says.text_is h

pub agreed_at : (input line : List ℕ) (s : Status) → s ≡ status.Ok → CheckSays input s line → IsAgreed input
agreed_at input line s is h = agreed input line (subst (λ (t : Status). CheckSays input t line) is h)

abbrev IsWithin : Result (Script × List (List ℕ)) ScriptFault → Type 0
IsWithin r = IfOk r (λ p. IsWithinLimits p.0)

-- its description is one, and its machine is made
pub starts_well : (input : List ℕ) (script : Script) (lines : List (List ℕ)) → IsAgreed input → check_of input ≡ Ok (script, lines) → StartsWell script
starts_well input script lines h read =
    let within : IsWithinLimits script = subst IsWithin read (checked_scripts_fit input) in
    let same : h.script ≡ script =
    ap (λ (p : Script × List (List ℕ)). p.0) (same_ok (check_of input) (h.script, parts h.report) (script, lines) h.is_input.read read) in
    record {
      description = within.description;
      first = h.first;
      starts = subst (λ (s : Script). IsFirstState s.desc h.first) same h.is_input.starts;
    }

pub no_fault : (input : List ℕ) (fault : ScriptFault) → IsAgreed input → check_of input ≡ Err fault → ⊥
no_fault input fault h none = not_both (check_of input) (h.script, parts h.report) fault h.is_input.read none

pub no_refusal : (script : Script) (fault : DescFault) → StartsWell script → IsRefused script.desc fault → ⊥
no_refusal script fault h none = made_once script.desc h.first fault h.starts none

-- ---- the run that was read

-- a report is read by its lines
by_lines : (legs : ℕ) (copies : List Bool) (vcpus : ℕ) (one other : List ℕ) → parts one ≡ parts other → trace_of legs copies vcpus one
    ≡ trace_of legs copies vcpus other
unfolding trace_of
by_lines legs copies vcpus one other same = rw same refl

-- the legs of the run whose report it is are those that are read
pub record ReadsRun (script : Script) (report : List ℕ) : Type 0 where
  pub first : Plain
  pub histories : List (List Entry)
  pub starts : IsFirstState script.desc first
  pub is_run : IsRun first script.legs histories
  pub read : read_report script report ≡ Ok (all_told script first histories)

pub reads_run : (input : List ℕ) (script : Script) (report : List ℕ) → IsAgreed input → check_of input ≡ Ok (script, parts report) → ReadsRun script report
reads_run input script report h read =
    let both : (h.script, parts h.report) ≡ (script, parts report) =
    same_ok (check_of input) (h.script, parts h.report) (script, parts report) h.is_input.read read in
    let same : h.script ≡ script = ap (λ (p : Script × List (List ℕ)). p.0) both in
    let lines : parts h.report ≡ parts report = ap (λ (p : Script × List (List ℕ)). p.1) both in
    let here : ReadsRun h.script report = record {
      first = h.first;
      histories = h.says.histories;
      starts = h.is_input.starts;
      is_run = h.says.is_run;
      read = by_lines (length h.script.legs) (copies_of h.script.moves) h.script.desc.shape.vcpus report h.report (sym lines) ∙ h.says.read;
    } in
    subst (λ (s : Script). ReadsRun s report) same here

-- ---- what a pattern finds

pub no_fault_as : (input : List ℕ) (e : ParseError) (fault : ScriptFault) → e ≡ parsing.Fault fault → IsAgreed input → FailsAs e (check_of input) → ⊥
no_fault_as input e fault is h none = no_fault input fault h (subst (λ (x : ParseError). FailsAs x (check_of input)) is none)

pub no_refusal_as : (script : Script) (e : MakeError) (fault : DescFault) → e ≡ making.Fault fault → StartsWell script → IsMadeFrom script.desc (Err e)
    → ⊥
no_refusal_as script e fault is h none = no_refusal script fault h (subst (λ (x : MakeError). IsMadeFrom script.desc (Err x)) is none)
