-- What threads were told, as a text: what each line says, and the whole of it or its first line that isn't as it must be. Lines, and what they
-- say of what is pending, are those of a report.
use Rattle.std.specs.Prelude.{◌≡◌, ℕ, suc, zero, ◌+◌, ◌^◌, Bool, ◌&&◌, nat_lt, nat_le, if◌then◌else◌, List, [], ◌∷◌, codes, Option, Some, None}
use Rattle.std.specs.Prelude.{Result, Ok, Err}
use Rattle.std.specs.Str.{bytes_eq}
use Rattle.std.specs.Str.Parse.{digits_value}
use Rattle.std.specs.Fmt.{decimal}
use Rattle.front_search.specs.declared.span.Span.{Span}
use Rattle.its_history.specs.Reading.{◌>>=◌, ◌then◌, after, cut_at, is_over, is_printed, LinesLeft, lines_left, only, parts, pending_from}
use Rattle.its_history.specs.declared.reading.TraceError.{TraceError}
use Rattle.its_history.specs.declared.reading.TraceError.TheVariants as error
use Rattle.its_fit.specs.declared.told.Answered.{Answered}
use Rattle.its_fit.specs.declared.told.Told.{Told}
use Rattle.fit_answers.specs.declared.left.Lines.{Lines}
use Rattle.fit_answers.specs.declared.words.CallLine.{CallLine}

-- ---- what a line says

-- a number below 2 ^ 64, as it is printed
unfoldable pub time : List ℕ → Option ℕ
time text = only (nat_lt (digits_value 10 text) (2 ^ 64) && bytes_eq (decimal (digits_value 10 text)) text) (digits_value 10 text)

abbrev pub answered_with : Option ℕ → Option ℕ → List ℕ → Option Answered
answered_with (Some begin) (Some end) text = Some (record { span = record { begin = begin; end = end }; text = text })
answered_with _ _ text = None

-- when a call began and returned, and its text, as its line says after the thread
unfoldable pub told_in : List ℕ → Option Answered
told_in told = do
  b ← cut_at 32 told
  e ← cut_at 32 b.1
  answered_with (time b.0) (time e.0) e.1

-- a call of a thread with a number
unfoldable pub call_in : ℕ → List ℕ → Option Answered
call_in thread line = do
  phase ← after (codes "1.") line
  numbered ← after (decimal thread) phase
  told ← after (codes " ") numbered
  told_in told

-- ---- calls, one after another

-- it began once the one before it had returned, and returned no earlier than it began
abbrev pub is_in_order : ℕ → Span → Bool
is_in_order last s = nat_le last s.begin && nat_le s.begin s.end

abbrev pub Calls : Type 0
Calls = Result (List Answered × LinesLeft) ℕ

-- one in order, and those after it
abbrev pub call_then : ℕ → LinesLeft → Option Answered → (ℕ → Calls) → Calls
call_then last here None more = Ok ([], here)
call_then last here (Some a) more =
    if is_in_order last a.span then (more a.span.end then λ p. Ok (a ∷ p.0, p.1)) else Err here.number

-- the calls of a thread of which one returned then, up to a line that isn't one
abbrev pub calls_from : ℕ → ℕ → ℕ → List (List ℕ) → Calls
calls_from thread last n [] = Ok ([], lines_left n [])
calls_from thread last n (cut ∷ []) = Ok ([], lines_left n (cut ∷ []))
calls_from thread last n (text ∷ (next ∷ rest)) =
    call_then last (lines_left n (text ∷ (next ∷ rest))) (only (is_printed text) text >>= call_in thread)
    (λ end. calls_from thread end (n + 1) (next ∷ rest))

-- those of so many threads, after some others
abbrev pub threads_from : ℕ → ℕ → LinesLeft → Result (List (List Answered) × LinesLeft) ℕ
threads_from earlier zero l = Ok ([], l)
threads_from earlier (suc count) l =
    calls_from (earlier + 1) 0 l.number l.parts then λ p. threads_from (earlier + 1) count p.1 then λ q. Ok (p.0 ∷ q.0, q.1)

-- ---- the whole of it

-- what lines say that so many threads were told on a machine of so many virtual processors
unfoldable pub told_from : ℕ → ℕ → List (List ℕ) → Result Told ℕ
told_from threads vcpus lines =
    threads_from 0 threads (lines_left 1 lines) then λ ts. pending_from 0 vcpus ts.1 then λ ps.
    if is_over ps.1.parts then Ok (record { threads = ts.0; pending = ps.0 }) else Err ps.1.number

abbrev pub told_of : ℕ → ℕ → List ℕ → Result Told ℕ
told_of threads vcpus text = told_from threads vcpus (parts text)

-- ---- how the program's fields show it

abbrev pub left : Lines → LinesLeft
left l = lines_left l.number (parts l.rest.now)

abbrev pub answered_by : CallLine → Answered
answered_by c = record { span = c.span; text = c.text.now }

-- the outcome of reading, unless memory ran out
abbrev pub IsToldAs : Result Told TraceError → Result Told ℕ → Type 0
IsToldAs (Ok t) read = read ≡ Ok t
IsToldAs (Err (error.BadLine n)) read = read ≡ Err n
IsToldAs (Err error.NoMemory) read = Unit {0}
