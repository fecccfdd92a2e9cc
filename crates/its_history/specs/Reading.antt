-- A report read back, of a script with so many legs, and a list of whether pages are copied before its migrations, on a machine with so
-- many virtual processors: the legs that it tells, or the number of its first line that isn't as it must be.
use Rattle.std.specs.Prelude.{◌≡◌, ℕ, suc, zero, ◌+◌, ◌^◌, Bool, true, false, ◌&&◌, ◌||◌, ◌==◌, nat_lt, nat_le, nat_eq, if◌then◌else◌, List, [], ◌∷◌, length}
use Rattle.std.specs.Prelude.{get_or, drop, take, position, codes, Option, Some, None, Result, Ok, Err}
use Rattle.std.specs.List.{slice_split, list_all, starts_with}
use Rattle.std.specs.Option.{ok_or}
use Rattle.std.specs.Str.{bytes_eq}
use Rattle.std.specs.Str.Parse.{digits_value}
use Rattle.std.specs.Fmt.{decimal}
use Rattle.its_history.specs.declared.lines.EntryText.{EntryText}
use Rattle.its_history.specs.declared.left.Lines.{Lines}
use Rattle.its_history.specs.declared.reading.TraceError.{TraceError}
use Rattle.its_history.specs.declared.reading.TraceError.TheVariants as error
use Rattle.its_history.specs.declared.trace.End.{End}
use Rattle.its_history.specs.declared.trace.End.TheVariants.{Migrated, Copied, Done}
use Rattle.its_history.specs.declared.trace.EntryLine.{EntryLine}
use Rattle.its_history.specs.declared.trace.Leg.{Leg}
use Rattle.its_history.specs.declared.trace.Trace.{Trace}

-- ---- what a line says

infixl 10 ◌>>=◌
abbrev pub ◌>>=◌ : {A B : Type 0} → Option A → (A → Option B) → Option B
(Some x) >>= f = f x
None >>= f = None

-- nothing, unless the test holds
abbrev pub only : {A : Type 0} → Bool → A → Option A
only test x = if test then Some x else None

-- each byte prints
abbrev pub is_printed : List ℕ → Bool
is_printed text = list_all (λ b. nat_le 32 b && nat_le b 126) text

-- what stands after a beginning
unfoldable pub after : List ℕ → List ℕ → Option (List ℕ)
after beginning text = only (bytes_eq (take (length beginning) text) beginning) (drop (length beginning) text)

abbrev pub cut : List ℕ → Option ℕ → Option (List ℕ × List ℕ)
cut text None = None
cut text (Some i) = Some (take i text, drop (i + 1) text)

-- what stands before the first such byte, and what after it
unfoldable pub cut_at : ℕ → List ℕ → Option (List ℕ × List ℕ)
cut_at byte text = cut text (position (λ b. b == byte) text)

-- a number below 2 ^ 32, as it is printed
unfoldable pub small_number : List ℕ → Option ℕ
small_number text =
    only (nat_lt (digits_value 10 text) (2 ^ 32) && bytes_eq (decimal (digits_value 10 text)) text) (digits_value 10 text)

-- ` -> ` stands in it, after one byte or more and before one or more
abbrev pub is_answered : List ℕ → Bool
is_answered [] = false
is_answered (b ∷ more) = (starts_with nat_eq more (codes " -> ") && nat_lt 4 (length more)) || is_answered more

abbrev pub entry_with : ℕ → Option ℕ → Option ℕ → List ℕ → Option EntryLine
entry_with place (Some phase) (Some thread) text = only (is_answered text) (record { place = place; phase = phase; thread = thread; text = text })
entry_with place _ _ text = None

-- the entry at a place, by what its line says after it
unfoldable pub told_in : ℕ → List ℕ → Option EntryLine
told_in place told = do
  p ← cut_at 46 told
  q ← cut_at 32 p.1
  entry_with place (small_number p.0) (small_number q.0) q.1

-- the entry at a place
unfoldable pub entry_in : ℕ → List ℕ → Option EntryLine
entry_in place line = do
  numbered ← after (decimal place) line
  told ← after (codes " ") numbered
  told_in place told

-- with what its line says after the place
abbrev pub entry_at : ℕ → EntryText → EntryLine
entry_at place e = record { place = place; phase = e.phase; thread = e.thread; text = e.text.now }

-- what is pending at a virtual processor
unfoldable pub pending_in : ℕ → List ℕ → Option (List ℕ)
pending_in vcpu line = do
  numbered ← after (codes "vcpu ") line
  told ← after (decimal vcpu) numbered
  pending ← after (codes " pending ") told
  only (nat_lt 0 (length pending)) pending

-- the first line of the leg with a number
unfoldable pub head_in : ℕ → List ℕ → Option (Unit {0})
head_in number line = do
  numbered ← after (codes "leg ") line
  only (bytes_eq numbered (decimal number)) tt

-- a line that is just a word
abbrev pub word_in : List ℕ → List ℕ → Option (Unit {0})
word_in word line = only (bytes_eq line word) tt

-- how many pages were copied before a migration, as a text
unfoldable pub pages_in : List ℕ → Option (List ℕ)
pages_in line = do
  pages ← after (codes "migrated copied ") line
  only (nat_lt 0 (length pages)) pages

-- ---- lines, one after another

-- the lines that are left, cut at their ends, and the number of the first; what stands after the last end is no line
pub record LinesLeft : Type 0 where
  pub number : ℕ
  pub parts : List (List ℕ)

abbrev pub lines_left : ℕ → List (List ℕ) → LinesLeft
lines_left number parts = record { number = number; parts = parts }

abbrev pub next_of : ℕ → List (List ℕ) → Option (List ℕ × LinesLeft)
next_of n [] = None
next_of n (last ∷ []) = None
next_of n (text ∷ (next ∷ rest)) = only (is_printed text) (text, lines_left (n + 1) (next ∷ rest))

-- the next line, if each of its bytes prints, and those after it
abbrev pub next_line : LinesLeft → Option (List ℕ × LinesLeft)
next_line l = next_of l.number l.parts

-- what the next line says, and the lines after it
abbrev pub said : {A : Type 0} → (List ℕ → Option A) → LinesLeft → Option (A × LinesLeft)
said f l = do
  p ← next_line l
  x ← f p.0
  Some (x, p.1)

-- the same, or the number of the line that doesn't say so
abbrev pub read : {A : Type 0} → (List ℕ → Option A) → LinesLeft → Result (A × LinesLeft) ℕ
read f l = ok_or (said f l) l.number

infixl 10 ◌then◌
abbrev pub ◌then◌ : {A B : Type 0} → Result A ℕ → (A → Result B ℕ) → Result B ℕ
(Ok x) then f = f x
(Err n) then f = Err n

-- ---- legs

abbrev pub entry_then : Option EntryLine → List EntryLine × LinesLeft → LinesLeft → List EntryLine × LinesLeft
entry_then None more here = ([], here)
entry_then (Some e) more here = (e ∷ more.0, more.1)

-- entries by place, up to a line that isn't one
abbrev pub entries_from : ℕ → ℕ → List (List ℕ) → List EntryLine × LinesLeft
entries_from place n [] = ([], lines_left n [])
entries_from place n (last ∷ []) = ([], lines_left n (last ∷ []))
entries_from place n (text ∷ (next ∷ rest)) =
    entry_then (only (is_printed text) text >>= entry_in place) (entries_from (place + 1) (n + 1) (next ∷ rest)) (lines_left n (text ∷ (next ∷ rest)))

-- what is pending at each of so many virtual processors, from one on
abbrev pub pending_from : ℕ → ℕ → LinesLeft → Result (List (List ℕ) × LinesLeft) ℕ
pending_from vcpu zero l = Ok ([], l)
pending_from vcpu (suc count) l = read (pending_in vcpu) l then λ p. pending_from (vcpu + 1) count p.1 then λ q. Ok (p.0 ∷ q.0, q.1)

-- what follows a leg: nothing, or a migration, and whether pages are copied before it
abbrev pub Move : Type 0
Move = Option Bool

-- the line that ends a leg
abbrev pub end_from : Move → LinesLeft → Result (End × LinesLeft) ℕ
end_from None l = read (word_in (codes "done")) l then λ p. Ok (Done, p.1)
end_from (Some false) l = read (word_in (codes "migrated")) l then λ p. Ok (Migrated, p.1)
end_from (Some true) l = read pages_in l then λ p. Ok (Copied p.0, p.1)

-- a leg that this follows
unfoldable pub leg_from : ℕ → ℕ → Move → LinesLeft → Result (Leg × LinesLeft) ℕ
leg_from vcpus number move l =
    read (head_in number) l then λ h. let es = entries_from 0 h.1.number h.1.parts in
    pending_from 0 vcpus es.1 then λ ps. end_from move ps.1 then λ e.
    Ok (record { entries = es.0; pending = ps.0; end = Some e.0 }, e.1)

-- what follows a leg before so many others
abbrev pub move_after : ℕ → List Bool → Move
move_after zero copies = None
move_after (suc others) copies = Some (get_or copies 0 false)

-- so many legs, from the one with a number on
abbrev pub legs_from : ℕ → ℕ → ℕ → List Bool → LinesLeft → Result (List Leg × LinesLeft) ℕ
legs_from vcpus number zero copies l = Ok ([], l)
legs_from vcpus number (suc others) copies l =
    leg_from vcpus number (move_after others copies) l then λ p. legs_from vcpus (number + 1) others (drop 1 copies) p.1 then λ q. Ok (p.0 ∷ q.0, q.1)

abbrev pub is_over : List (List ℕ) → Bool
is_over [] = true
is_over (last ∷ []) = length last == 0
is_over (text ∷ (next ∷ rest)) = false

-- ---- the whole of it

-- lines end at this byte
abbrev pub parts : List ℕ → List (List ℕ)
parts text = slice_split (λ b. b == 10) text

unfoldable pub trace_of : ℕ → List Bool → ℕ → List ℕ → Result (List Leg) ℕ
trace_of legs copies vcpus text =
    legs_from vcpus 1 legs copies (lines_left 1 (parts text)) then λ p. if is_over p.1.parts then Ok p.0 else Err p.1.number

-- ---- how the program's fields show the lines that are left

abbrev pub left : Lines → LinesLeft
left l = lines_left l.number (parts l.rest.now)

-- the outcome of reading, unless memory ran out: what was read, and the lines after it
abbrev pub Reads : {X A : Type 0} → (X → A) → Result X TraceError → LinesLeft → Result (A × LinesLeft) ℕ → Type 0
Reads view (Ok x) now read = read ≡ Ok (view x, now)
Reads view (Err (error.BadLine n)) now read = read ≡ Err n
Reads view (Err error.NoMemory) now read = Unit {0}

-- a line that may be an entry was taken, or left
abbrev pub MayTake : Option EntryLine → ℕ → LinesLeft → LinesLeft → Type 0
MayTake None place before now = (said (entry_in place) before ≡ None) × (now ≡ before)
MayTake (Some e) place before now = said (entry_in place) before ≡ Some (e, now)

-- the outcome of reading a report, unless memory ran out
abbrev pub IsReadAs : Result Trace TraceError → Result (List Leg) ℕ → Type 0
IsReadAs (Ok t) read = read ≡ Ok t.legs
IsReadAs (Err (error.BadLine n)) read = read ≡ Err n
IsReadAs (Err error.NoMemory) read = Unit {0}
