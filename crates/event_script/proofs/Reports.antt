-- A script that a report follows is read line by line, up to the line `trace`.
use Rattle.std.proofs.Common.{◌≡◌, ℕ, ◌+◌, ◌<◌, Bool, true, false, List, [], ◌∷◌, length, Result, refl, sym, ap, ◌∙◌, arith}
use Rattle.std.specs.Prelude.{if◌then◌else◌}
use Rattle.event_script.specs.Text.{parts, fields}
use Rattle.event_script.specs.Outcome.{Fails, error_at}
use Rattle.event_script.specs.Script.{line, at_line, ◌then◌, begins_report, report_line, check_from, FailsAs}
use Rattle.event_script.specs.declared.fault.Kind.{Kind}
use Rattle.event_script.specs.declared.fault.LineError.{LineError}
use Rattle.event_script.specs.declared.fault.LineError.TheVariants as errors
use Rattle.event_script.specs.declared.fault.ScriptFault.{ScriptFault}
use Rattle.event_script.specs.declared.draft.Draft.{Draft}
use Rattle.event_script.specs.declared.script.Script.{Script}
use Rattle.event_script.proofs.Lines.{some_part}

abbrev pub Read : Type 0
Read = Result (Script × List (List ℕ)) ScriptFault

abbrev first_line : ℕ → Draft → List ℕ → List (List ℕ) → Bool → Read
first_line n d text ps b = if b then report_line n d (fields text) ps else (at_line n (line d n text) then λ e. check_from (n + 1) e ps)

check_first : (n : ℕ) (d : Draft) (text : List ℕ) (ps : List (List ℕ)) → 0 < length ps → check_from n d (text ∷ ps) ≡ first_line n d text ps
    (begins_report d text)
check_first n d text [] lt = absurd (omega arith)
check_first n d text (p ∷ ps) lt = refl

at_first : (n : ℕ) (d : Draft) (text first more : List ℕ) (b : Bool) → parts text ≡ first ∷ parts more → begins_report d first ≡ b
    → check_from n d (parts text) ≡ first_line n d first (parts more) b
at_first n d text first more b at is = ap (check_from n d) at ∙ check_first n d first (parts more) (some_part more) ∙ ap (first_line n d first (parts more)) is

-- the line `trace`, by its fields
pub begun : (n : ℕ) (d : Draft) (text first more : List ℕ) (fs : List (List ℕ)) → parts text ≡ first ∷ parts more → begins_report d first ≡ true
    → fs ≡ fields first
    → check_from n d (parts text) ≡ report_line n d fs (parts more)
begun n d text first more fs at is same = at_first n d text first more true at is ∙ ap (λ (xs : List (List ℕ)). report_line n d xs (parts more)) (sym same)

-- another line
pub goes_on : (n : ℕ) (d : Draft) (text first more : List ℕ) → parts text ≡ first ∷ parts more → begins_report d first ≡ false
    → check_from n d (parts text) ≡ (at_line n (line d n first) then λ e. check_from (n + 1) e (parts more))
goes_on n d text first more at is = at_first n d text first more false at is

-- ---- what fails

pub fails_at : {A B : Type 0} (n : ℕ) (e : LineError) (r : Result A Kind) (f : A → Result B ScriptFault) (whole : Result B ScriptFault) → Fails e r
    → whole ≡ (at_line n r then f) → FailsAs (error_at n e) whole
fails_at n errors.Memory r f whole h is = tt
fails_at n (errors.Fault k) r f whole h is = is ∙ ap (λ x. at_line n x then f) h
