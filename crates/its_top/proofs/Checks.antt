-- What a status of `check` says, by what was read.
use Rattle.std.proofs.Common.{◌≡◌, ◌⊎◌, ℕ, ◌<◌, ◌≤◌, List, length, Some, Result, Ok, Err, IfOk, if◌then◌else◌, refl, ap, subst, ◌∙◌, inl, inr, arith}
use Rattle.its_plain.specs.Described.{IsFirstState, IsRefused}
use Rattle.its_plain.specs.Plain.{Plain}
use Rattle.its_plain.specs.declared.desc.DescFault.{DescFault}
use Rattle.event_script.proofs.Bounds.{checked_scripts_fit}
use Rattle.event_script.specs.Limits.{IsWithinLimits}
use Rattle.event_script.specs.Script.{check_of}
use Rattle.event_script.specs.Text.{parts}
use Rattle.event_script.specs.declared.fault.ScriptFault.{ScriptFault}
use Rattle.event_script.specs.declared.script.Script.{Script}
use Rattle.its_history.specs.Reading.{trace_of, legs_from, lines_left, is_over, ◌then◌}
use Rattle.its_history.specs.declared.trace.Leg.{Leg as LegLines}
use Rattle.trace_check.specs.Verdicts.{IsReportOfRun, copies_of}
use Rattle.report_reading.proofs.Reports.{run_reports}
use Rattle.its_answers.specs.Legs.{all_told}
use Rattle.its_answers.specs.Checked.{CheckCauses, CheckSays, ReportCauses, OfReport, IsAgreement, IsDiffering, IsBadTrace, IsNoMachine, IsCheckInput}
use Rattle.its_answers.specs.Checked.{read_report}
use Rattle.its_top.specs.Its.{IsCheckDecided}
use Rattle.its_answers.specs.Streams.{WasRead}
use Rattle.its_answers.specs.declared.status.Status.{Status}
use Rattle.its_answers.specs.declared.status.Status.TheVariants as status
use Rattle.its_answers.proofs.Once.{same_ok, not_both, first_once, made_once, too_short}

-- ---- what was read and what it says

-- a report of a script that was read
pub report_said : (input : List ℕ) (script : Script) (first : Plain) (report : List ℕ) (s : Status) (text : List ℕ) → IsCheckInput input script first report
    → ReportCauses script first report s text
    → CheckSays input s text
report_said input script first report status.Ok text is h = record { script = script; first = first; report = report; is_input = is; says = h }
report_said input script first report status.ScriptRefused text is h = absurd h
report_said input script first report status.WordsRefused text is h = absurd h
report_said input script first report status.ReadFault text is h = absurd h
report_said input script first report status.WriteFault text is h = absurd h
report_said input script first report status.Memory text is h = absurd h
report_said input script first report status.MachineRefused text is h = absurd h
report_said input script first report status.MigrationRefused text is h = absurd h
report_said input script first report status.Spent text is h = absurd h
report_said input script first report status.TooLong text is h = absurd h
report_said input script first report status.TraceDiffers text is h = record { script = script; first = first; report = report; is_input = is; says = h }
report_said input script first report status.BadTrace text is h = record { script = script; first = first; report = report; is_input = is; says = h }
report_said input script first report status.Undecided text is h = absurd h

-- ---- what decides

abbrev Ended : Status → Status → Type 0
Ended s expected = (s ≡ expected) ⊎ (s ≡ status.Memory)

long : (input : List ℕ) (rose : Type 0) (s : Status) (text : List ℕ) → ¬ rose → CheckCauses (Some input) rose s text → 16777216 < length input
    → Ended s status.TooLong
long input rose status.Ok text calm h lt = too_short input h.0 h.1.0 lt
long input rose status.ScriptRefused text calm h lt = too_short input h.0 h.1.0 lt
long input rose status.WordsRefused text calm h lt = absurd h
long input rose status.ReadFault text calm h lt = absurd (calm h.0)
long input rose status.WriteFault text calm h lt = absurd h
long input rose status.Memory text calm h lt = inr refl
long input rose status.MachineRefused text calm h lt = too_short input h.0 h.1.0 lt
long input rose status.MigrationRefused text calm h lt = absurd h
long input rose status.Spent text calm h lt = absurd h
long input rose status.TooLong text calm h lt = inl refl
long input rose status.TraceDiffers text calm h lt = too_short input h.0 h.1.0 lt
long input rose status.BadTrace text calm h lt = too_short input h.0 h.1.0 lt
long input rose status.Undecided text calm h lt = absurd h

-- what was read is the input
read_as : (input read : List ℕ) → WasRead (Some input) read → (x : Result (Script × List (List ℕ)) ScriptFault) → check_of input ≡ x → check_of read ≡ x
read_as input read was x e = subst (λ (i : List ℕ). check_of i ≡ x) was.whole e

no_such : {X : Type 0} (Says : Script → Plain → List ℕ → List ℕ → Type 0) (input read text : List ℕ) (fault : ScriptFault) → WasRead (Some input) read
    → OfReport Says read text → check_of input ≡ Err fault → X
no_such Says input read text fault was h e = not_both (check_of read) (h.script, parts h.report) fault h.is_input.read (read_as input read was (Err fault) e)

no_script : (input : List ℕ) (rose : Type 0) (s : Status) (text : List ℕ) → ¬ rose → CheckCauses (Some input) rose s text → length input ≤ 16777216
    → (fault : ScriptFault) → check_of input ≡ Err fault
    → Ended s status.ScriptRefused
no_script input rose status.Ok text calm h le fault e = no_such IsAgreement input h.0 text fault h.1.0 h.1.1 e
no_script input rose status.ScriptRefused text calm h le fault e = inl refl
no_script input rose status.WordsRefused text calm h le fault e = absurd h
no_script input rose status.ReadFault text calm h le fault e = absurd (calm h.0)
no_script input rose status.WriteFault text calm h le fault e = absurd h
no_script input rose status.Memory text calm h le fault e = inr refl
no_script input rose status.MachineRefused text calm h le fault e = not_both (check_of h.0) (h.1.1.script, h.1.1.lines) fault h.1.1.read
    (read_as input h.0 h.1.0 (Err fault) e)
no_script input rose status.MigrationRefused text calm h le fault e = absurd h
no_script input rose status.Spent text calm h le fault e = absurd h
no_script input rose status.TooLong text calm h le fault e = absurd (omega (arith, h.0, le))
no_script input rose status.TraceDiffers text calm h le fault e = no_such IsDiffering input h.0 text fault h.1.0 h.1.1 e
no_script input rose status.BadTrace text calm h le fault e = no_such IsBadTrace input h.0 text fault h.1.0 h.1.1 e
no_script input rose status.Undecided text calm h le fault e = absurd h

same_script : (read : List ℕ) (s t : Script) (ls ms : List (List ℕ)) → check_of read ≡ Ok (s, ls) → check_of read ≡ Ok (t, ms) → s ≡ t
same_script read s t ls ms a b = ap (λ (p : Script × List (List ℕ)). p.0) (same_ok (check_of read) (s, ls) (t, ms) a b)

same_lines : (read : List ℕ) (s t : Script) (ls ms : List (List ℕ)) → check_of read ≡ Ok (s, ls) → check_of read ≡ Ok (t, ms) → ls ≡ ms
same_lines read s t ls ms a b = ap (λ (p : Script × List (List ℕ)). p.1) (same_ok (check_of read) (s, ls) (t, ms) a b)

no_run : {X : Type 0} (Says : Script → Plain → List ℕ → List ℕ → Type 0) (input read text : List ℕ) (script : Script) (lines : List (List ℕ))
    (fault : DescFault) → WasRead (Some input) read → OfReport Says read text
    → check_of input ≡ Ok (script, lines) → IsRefused script.desc fault → X
no_run Says input read text script lines fault was h e none =
    let same = same_script read script h.script lines (parts h.report) (read_as input read was (Ok (script, lines)) e) h.is_input.read in
    made_once h.script.desc h.first fault h.is_input.starts (subst (λ (s : Script). IsRefused s.desc fault) same none)

no_machine : (input : List ℕ) (rose : Type 0) (s : Status) (text : List ℕ) → ¬ rose → CheckCauses (Some input) rose s text → length input ≤ 16777216
    → (script : Script) (lines : List (List ℕ)) (fault : DescFault) → check_of input ≡ Ok (script, lines) → IsRefused script.desc fault
    → Ended s status.MachineRefused
no_machine input rose status.Ok text calm h le script lines fault e none = no_run IsAgreement input h.0 text script lines fault h.1.0 h.1.1 e none
no_machine input rose status.ScriptRefused text calm h le script lines fault e none = not_both (check_of h.0) (script, lines) h.1.1.fault
    (read_as input h.0 h.1.0 (Ok (script, lines)) e) h.1.1.read
no_machine input rose status.WordsRefused text calm h le script lines fault e none = absurd h
no_machine input rose status.ReadFault text calm h le script lines fault e none = absurd (calm h.0)
no_machine input rose status.WriteFault text calm h le script lines fault e none = absurd h
no_machine input rose status.Memory text calm h le script lines fault e none = inr refl
no_machine input rose status.MachineRefused text calm h le script lines fault e none = inl refl
no_machine input rose status.MigrationRefused text calm h le script lines fault e none = absurd h
no_machine input rose status.Spent text calm h le script lines fault e none = absurd h
no_machine input rose status.TooLong text calm h le script lines fault e none = absurd (omega (arith, h.0, le))
no_machine input rose status.TraceDiffers text calm h le script lines fault e none = no_run IsDiffering input h.0 text script lines fault h.1.0 h.1.1 e none
no_machine input rose status.BadTrace text calm h le script lines fault e none = no_run IsBadTrace input h.0 text script lines fault h.1.0 h.1.1 e none
no_machine input rose status.Undecided text calm h le script lines fault e none = absurd h

-- ---- how a report stands to its script's runs

abbrev Stands : Script → Plain → Result (List LegLines) ℕ → Status → Type 0
Stands script first read status.Ok = (told : List LegLines) × (read ≡ Ok told) × IsReportOfRun first script.legs (copies_of script.moves) told
Stands script first read status.TraceDiffers = (told : List LegLines) × (read ≡ Ok told) × ¬ IsReportOfRun first script.legs (copies_of script.moves) told
Stands script first read status.BadTrace = (line : ℕ) × (read ≡ Err line)
Stands script first read _ = ⊥

agrees : (script : Script) (first : Plain) (report text : List ℕ) → IsAgreement script first report text
    → Stands script first (read_report script report) status.Ok
agrees script first report text a =
    (all_told script first a.histories, a.read, record { histories = a.histories; is_run = a.is_run; told_is = refl })

-- one and the same report is read the same
same_read : (script : Script) (a b : List ℕ) → parts a ≡ parts b → read_report script a ≡ read_report script b
unfolding trace_of
same_read script a b same =
    ap (λ (ps : List (List ℕ)). legs_from script.desc.shape.vcpus 1 (length script.legs) (copies_of script.moves) (lines_left 1 ps) then λ p.
    if is_over p.1.parts then Ok p.0 else Err p.1.number) same

same_stands : (input read : List ℕ) (s : Status) (Says : Script → Plain → List ℕ → List ℕ → Type 0) (text : List ℕ) (script : Script) (first : Plain)
    (report : List ℕ) → WasRead (Some input) read → (h : OfReport Says read text)
    → IsCheckInput input script first report → Stands h.script h.first (read_report h.script h.report) s → Stands script first (read_report script report) s
same_stands input read s Says text script first report was h is stands =
    let here = read_as input read was (Ok (script, parts report)) is.read in
    let script_is : h.script ≡ script = same_script read h.script script (parts h.report) (parts report) h.is_input.read here in
    let lines_are : parts h.report ≡ parts report = same_lines read h.script script (parts h.report) (parts report) h.is_input.read here in
    let start : h.first ≡ first = first_once script.desc h.first first (subst (λ (t : Script). IsFirstState t.desc h.first) script_is h.is_input.starts)
    is.starts in
    let moved : Stands script h.first (read_report script h.report) s = subst (λ (t : Script). Stands t h.first (read_report t h.report) s) script_is stands in
    subst (λ (u : Plain). Stands script u (read_report script report) s) start (subst (λ (r : Result (List LegLines) ℕ). Stands script h.first r s)
    (same_read script h.report report lines_are) moved)

no_first : {X : Type 0} (input read text : List ℕ) (script : Script) (first : Plain) (report : List ℕ) → WasRead (Some input) read → IsNoMachine read text
    → IsCheckInput input script first report → X
no_first input read text script first report was h is =
    let same = same_script read h.script script h.lines (parts report) h.read (read_as input read was (Ok (script, parts report)) is.read) in
    made_once script.desc first h.fault is.starts (subst (λ (t : Script). IsRefused t.desc h.fault) same h.refused)

by_report : (input : List ℕ) (rose : Type 0) (s : Status) (text : List ℕ) → ¬ rose → CheckCauses (Some input) rose s text → length input ≤ 16777216
    → (script : Script) (first : Plain) (report : List ℕ) → IsCheckInput input script first report → (s ≡ status.Memory)
    ⊎ Stands script first (read_report script report) s
by_report input rose status.Ok text calm h le script first report is = inr (same_stands input h.0 status.Ok IsAgreement text script first report h.1.0 h.1.1 is
    (agrees h.1.1.script h.1.1.first h.1.1.report text h.1.1.says))
by_report input rose status.ScriptRefused text calm h le script first report is = not_both (check_of h.0) (script, parts report) h.1.1.fault
    (read_as input h.0 h.1.0 (Ok (script, parts report)) is.read) h.1.1.read
by_report input rose status.WordsRefused text calm h le script first report is = absurd h
by_report input rose status.ReadFault text calm h le script first report is = absurd (calm h.0)
by_report input rose status.WriteFault text calm h le script first report is = absurd h
by_report input rose status.Memory text calm h le script first report is = inl refl
by_report input rose status.MachineRefused text calm h le script first report is = no_first input h.0 text script first report h.1.0 h.1.1 is
by_report input rose status.MigrationRefused text calm h le script first report is = absurd h
by_report input rose status.Spent text calm h le script first report is = absurd h
by_report input rose status.TooLong text calm h le script first report is = absurd (omega (arith, h.0, le))
by_report input rose status.TraceDiffers text calm h le script first report is =
    inr (same_stands input h.0 status.TraceDiffers IsDiffering text script first report h.1.0 h.1.1 is (h.1.1.says.told, h.1.1.says.read, h.1.1.says.none))
by_report input rose status.BadTrace text calm h le script first report is =
    inr (same_stands input h.0 status.BadTrace IsBadTrace text script first report h.1.0 h.1.1 is (h.1.1.says.line, h.1.1.says.read))
by_report input rose status.Undecided text calm h le script first report is = absurd h

told_once : (r : Result (List LegLines) ℕ) (a b : List LegLines) → r ≡ Ok a → r ≡ Ok b → a ≡ b
told_once r a b x y = same_ok r a b x y

is_bad : (script : Script) (first : Plain) (read : Result (List LegLines) ℕ) (s : Status) (line : ℕ) → read ≡ Err line → Stands script first read s
    → s ≡ status.BadTrace
is_bad script first read status.Ok line e h = not_both read h.0 line h.1 e
is_bad script first read status.ScriptRefused line e h = absurd h
is_bad script first read status.WordsRefused line e h = absurd h
is_bad script first read status.ReadFault line e h = absurd h
is_bad script first read status.WriteFault line e h = absurd h
is_bad script first read status.Memory line e h = absurd h
is_bad script first read status.MachineRefused line e h = absurd h
is_bad script first read status.MigrationRefused line e h = absurd h
is_bad script first read status.Spent line e h = absurd h
is_bad script first read status.TooLong line e h = absurd h
is_bad script first read status.TraceDiffers line e h = not_both read h.0 line h.1 e
is_bad script first read status.BadTrace line e h = refl
is_bad script first read status.Undecided line e h = absurd h

is_other : (script : Script) (first : Plain) (read : Result (List LegLines) ℕ) (s : Status) (told : List LegLines) → read ≡ Ok told
    → ¬ IsReportOfRun first script.legs (copies_of script.moves) told → Stands script first read s → s ≡ status.TraceDiffers
is_other script first read status.Ok told e none h =
    absurd (none (subst (λ (ls : List LegLines). IsReportOfRun first script.legs (copies_of script.moves) ls) (told_once read h.0 told h.1 e) h.2))
is_other script first read status.ScriptRefused told e none h = absurd h
is_other script first read status.WordsRefused told e none h = absurd h
is_other script first read status.ReadFault told e none h = absurd h
is_other script first read status.WriteFault told e none h = absurd h
is_other script first read status.Memory told e none h = absurd h
is_other script first read status.MachineRefused told e none h = absurd h
is_other script first read status.MigrationRefused told e none h = absurd h
is_other script first read status.Spent told e none h = absurd h
is_other script first read status.TooLong told e none h = absurd h
is_other script first read status.TraceDiffers told e none h = refl
is_other script first read status.BadTrace told e none h = not_both read told h.0 e h.1
is_other script first read status.Undecided told e none h = absurd h

is_well : (script : Script) (first : Plain) (read : Result (List LegLines) ℕ) (s : Status) (told : List LegLines) → read ≡ Ok told
    → IsReportOfRun first script.legs (copies_of script.moves) told → Stands script first read s → s ≡ status.Ok
is_well script first read status.Ok told e run h = refl
is_well script first read status.ScriptRefused told e run h = absurd h
is_well script first read status.WordsRefused told e run h = absurd h
is_well script first read status.ReadFault told e run h = absurd h
is_well script first read status.WriteFault told e run h = absurd h
is_well script first read status.Memory told e run h = absurd h
is_well script first read status.MachineRefused told e run h = absurd h
is_well script first read status.MigrationRefused told e run h = absurd h
is_well script first read status.Spent told e run h = absurd h
is_well script first read status.TooLong told e run h = absurd h
is_well script first read status.TraceDiffers told e run h =
    absurd (h.2 (subst (λ (ls : List LegLines). IsReportOfRun first script.legs (copies_of script.moves) ls) (told_once read told h.0 e h.1) run))
is_well script first read status.BadTrace told e run h = not_both read told h.0 e h.1
is_well script first read status.Undecided told e run h = absurd h

ended : (s expected : Status) (P : Type 0) → (P → s ≡ expected) → (s ≡ status.Memory) ⊎ P → Ended s expected
ended s expected P f h = elim h [ inl memory ↦ inr memory | inr p ↦ inl (f p) ]

abbrev Fits : Result (Script × List (List ℕ)) ScriptFault → Type 0
Fits r = IfOk r (λ p. IsWithinLimits p.0)

pub check_decided : (input : List ℕ) (rose : Type 0) (s : Status) (text : List ℕ) → ¬ rose → CheckCauses (Some input) rose s text → IsCheckDecided input s
check_decided input rose s text calm h = record {
  too_long = λ lt. long input rose s text calm h lt;
  script_refused = λ le fault e. no_script input rose s text calm h le fault e;
  machine_refused = λ le script lines fault e none. no_machine input rose s text calm h le script lines fault e none;
  bad_trace = λ le script first report line is e. ended s status.BadTrace _ (is_bad script first (read_report script report) s line e)
      (by_report input rose s text calm h le script first report is);
  differs = λ le script first report told is e none. ended s status.TraceDiffers _ (is_other script first (read_report script report) s told e none)
      (by_report input rose s text calm h le script first report is);
  complete = λ le script first report hs is run same.
      let within : IsWithinLimits script = subst Fits is.read (checked_scripts_fit input) in
      let read : read_report script report ≡ Ok (all_told script first hs) = ap (read_report script) same
      ∙ run_reports script first (copies_of script.moves) hs within is.starts run in
      let told : IsReportOfRun first script.legs (copies_of script.moves) (all_told script first hs) =
      record { histories = hs; is_run = run; told_is = refl } in
      ended s status.Ok _ (is_well script first (read_report script report) s (all_told script first hs) read told)
      (by_report input rose s text calm h le script first report is);
}
