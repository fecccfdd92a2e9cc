-- Scripts: what the bytes of one say, or its first faulty line with that line's first kind.
use Rattle.std.specs.Prelude.{◌≡◌, ℕ, ◌+◌, Bool, ◌&&◌, ◌||◌, ◌==◌, if◌then◌else◌, List, [], ◌∷◌, length, slice_index, codes}
use Rattle.std.specs.Prelude.{Result, Ok}
use Rattle.std.specs.Prelude.{Err, None, Some}
use Rattle.std.specs.Str.{bytes_eq}
use Rattle.event_script.specs.Text.{parts, fields, is_text}
use Rattle.event_script.specs.Outcome.{◌>>=◌, ensure}
use Rattle.event_script.specs.Fields.{arg}
use Rattle.event_script.specs.Words.{keyword_of, call_word_of}
use Rattle.event_script.specs.Described.{desc_of}
use Rattle.event_script.specs.Description.{empty, is_ended}
use Rattle.event_script.specs.Body.{keyword_line, call_word_line}
use Rattle.event_script.specs.declared.fault.Kind.{Kind}
use Rattle.event_script.specs.declared.fault.Kind.TheVariants as kind
use Rattle.event_script.specs.declared.fault.ScriptFault.{ScriptFault}
use Rattle.event_script.specs.declared.fault.ParseError.{ParseError}
use Rattle.event_script.specs.declared.fault.ParseError.TheVariants as error
use Rattle.event_script.specs.declared.draft.Draft.{Draft}
use Rattle.event_script.specs.declared.script.CheckInput.{CheckInput}
use Rattle.event_script.specs.declared.script.Script.{Script}

-- ---- one line

-- blank, or a remark
abbrev pub is_skipped : List (List ℕ) → Bool
is_skipped fs = length fs == 0 || slice_index (arg fs 0) 0 == 35

unfoldable pub other_line : Draft → ℕ → List (List ℕ) → Result Draft Kind
other_line d n fs = do
  k ← keyword_of (arg fs 0)
  keyword_line d n k fs

-- the word of a call, or another
unfoldable pub words_line : Draft → ℕ → List (List ℕ) → Result Draft Kind
words_line d n fs = elim (call_word_of (arg fs 0)) [ None ↦ other_line d n fs | Some w ↦ call_word_line d n w fs ]

-- the n-th line, without its line end
unfoldable pub line : Draft → ℕ → List ℕ → Result Draft Kind
line d n text = do
  _ ← ensure (is_text text) kind.Text
  if is_skipped (fields text) then Ok d else words_line d n (fields text)

-- ---- the end

-- what was said
unfoldable pub said : Draft → Result Script Kind
said d = do
  desc ← desc_of d
  Ok (record { desc = desc; fill_lines = d.fill_lines; requester_lines = d.requester_lines; legs = d.legs; moves = d.moves })

-- the script of a draft that ended
unfoldable pub script_from : Draft → Result Script Kind
script_from d = do
  _ ← ensure (is_ended d.stage) kind.Missing
  said d

-- what stands after the last line end is no line
unfoldable pub finished : Draft → List ℕ → Result Script Kind
finished d last = do
  _ ← ensure (length last == 0) kind.Cut
  script_from d

-- ---- the whole of it

-- a fault has the number of its line
abbrev pub at_line : {A : Type 0} → ℕ → Result A Kind → Result A ScriptFault
at_line n (Ok x) = Ok x
at_line n (Err k) = Err (record { line = n; kind = k })

infixl 10 ◌then◌
abbrev pub ◌then◌ : {A B : Type 0} → Result A ScriptFault → (A → Result B ScriptFault) → Result B ScriptFault
(Ok x) then f = f x
(Err e) then f = Err e

-- the parts from the n-th on: all but the last are lines
abbrev pub parts_from : ℕ → Draft → List (List ℕ) → Result Script ScriptFault
parts_from n d [] = at_line n (script_from d)
parts_from n d (last ∷ []) = at_line n (finished d last)
parts_from n d (text ∷ (next ∷ rest)) = at_line n (line d n text) then λ e. parts_from (n + 1) e (next ∷ rest)

unfoldable pub script_of : List ℕ → Result Script ScriptFault
script_of bytes = parts_from 1 empty (parts bytes)

-- ---- a script that a report follows

-- a line `trace` after the script
abbrev pub begins_report : Draft → List ℕ → Bool
begins_report d text = is_ended d.stage && is_text text && bytes_eq (arg (fields text) 0) (codes "trace")

-- it has these fields
unfoldable pub trace_with : Draft → List (List ℕ) → Result Script Kind
trace_with d fs = do
  _ ← ensure (length fs == 1) kind.Fields
  script_from d

abbrev pub report_line : ℕ → Draft → List (List ℕ) → List (List ℕ) → Result (Script × List (List ℕ)) ScriptFault
report_line n d fs report = at_line n (trace_with d fs) then λ s. Ok (s, report)

-- no report came
abbrev pub without_report : List ℕ → Result (Script × List (List ℕ)) Kind
without_report last = if length last == 0 then Err kind.Missing else Err kind.Cut

-- the parts from the n-th on: those after the line `trace` are the report's
abbrev pub check_from : ℕ → Draft → List (List ℕ) → Result (Script × List (List ℕ)) ScriptFault
check_from n d [] = at_line n (without_report [])
check_from n d (last ∷ []) = at_line n (without_report last)
check_from n d (text ∷ (next ∷ rest)) =
    if begins_report d text then report_line n d (fields text) (next ∷ rest)
    else (at_line n (line d n text) then λ e. check_from (n + 1) e (next ∷ rest))

-- the script, and the parts of the report
unfoldable pub check_of : List ℕ → Result (Script × List (List ℕ)) ScriptFault
check_of bytes = check_from 1 empty (parts bytes)

-- the answer to some bytes: their script or its first fault, unless memory ran out
abbrev pub FailsAs : {A : Type 0} → ParseError → Result A ScriptFault → Type 0
FailsAs error.NoMemory read = Unit {0}
FailsAs (error.Fault fault) read = read ≡ Err fault

abbrev pub IsAnswer : Result Script ParseError → Result Script ScriptFault → Type 0
IsAnswer (Ok script) read = read ≡ Ok script
IsAnswer (Err e) read = FailsAs e read

abbrev pub IsCheckAnswer : Result CheckInput ParseError → Result (Script × List (List ℕ)) ScriptFault → Type 0
IsCheckAnswer (Ok input) read = read ≡ Ok (input.script, parts input.report.now)
IsCheckAnswer (Err e) read = FailsAs e read
