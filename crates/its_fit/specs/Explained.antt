-- Histories that explain what threads were answered.
use Rattle.std.specs.Prelude.{◌≡◌, ℕ, suc, ◌==◌, ◌≤◌, ◌<◌, if◌then◌else◌, List, [], ◌∷◌, length, slice_index_or, Some}
use Rattle.std.specs.List.{AllByRecursion}
use Rattle.its_plain.specs.Plain.{Plain}
use Rattle.its_plain.specs.Runs.{Phase}
use Rattle.its_history.specs.declared.trace.End.TheVariants.{Done}
use Rattle.its_history.specs.declared.trace.EntryLine.{EntryLine}
use Rattle.its_history.specs.declared.trace.Leg.{Leg as LegLines}
use Rattle.front_search.specs.declared.span.Span.{Span}
use Rattle.trace_check.specs.Verdicts.{IsReportOfRun}
use Rattle.its_fit.specs.declared.told.Answered.{Answered}
use Rattle.its_fit.specs.declared.told.Told.{Told}

-- an answered call, after its thread, of which the first is 0
abbrev pub Line : Type 0
Line = ℕ × Answered

-- those of a thread, in their order
abbrev pub lines_by : ℕ → List Line → List Answered
lines_by i [] = []
lines_by i (l ∷ lines) = if l.0 == i then l.1 ∷ lines_by i lines else lines_by i lines

-- what a thread was answered, of which the first is 0
abbrev pub told_by : List (List Answered) → ℕ → List Answered
told_by threads i = slice_index_or threads i []

-- The lines are those of all threads, each thread's in its order.
pub record IsMerge (threads : List (List Answered)) (lines : List Line) : Type 0 where
  pub known : AllByRecursion (λ (l : Line). l.0 < length threads) lines
  pub same : (i : ℕ) → lines_by i lines ≡ told_by threads i

-- ---- times

abbrev pub HadBegun : Span → Line → Type 0
HadBegun s l = s.begin ≤ l.1.span.end

-- Each call had begun before it returned, and before any later one did. So a call that returned before another began stands before it.
abbrev pub AgreesWithTimes : List Line → Type 0
AgreesWithTimes [] = Unit {0}
AgreesWithTimes (l ∷ lines) = AllByRecursion (HadBegun l.1.span) (l ∷ lines) × AgreesWithTimes lines

-- ---- reports

-- the entries of a report, of which the first has the place n
abbrev pub entries_from : ℕ → List Line → List EntryLine
entries_from n [] = []
entries_from n (l ∷ lines) = record { place = n; phase = 1; thread = suc l.0; text = l.1.text } ∷ entries_from (suc n) lines

-- a report of one leg, with what is pending at its end
abbrev pub report_of : List Line → List (List ℕ) → LegLines
report_of lines pending = record { entries = entries_from 0 lines; pending = pending; end = Some Done }

-- In this order the lines are the report of a run of the threads' calls from a first state on.
pub record Explains (first : Plain) (calls : Phase) (told : Told) (lines : List Line) : Type 0 where
  pub merge : IsMerge told.threads lines
  pub times : AgreesWithTimes lines
  pub is_run : IsReportOfRun first ((calls ∷ []) ∷ []) [] (report_of lines told.pending ∷ [])
