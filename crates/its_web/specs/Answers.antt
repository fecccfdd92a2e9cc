-- What is put where a caller wants it.
use Rattle.std.specs.Prelude.{◌≡◌, ℕ, ◌<◌, ◌≤◌, List, ◌++◌, length, take, drop}
use Rattle.std.specs.String.{string_bytes}
use Rattle.its_answers.specs.Answered.{refusal_text}
use Rattle.its_answers.specs.declared.status.Status.{Status}
use Rattle.its_answers.specs.declared.status.Status.TheVariants as status
use Rattle.its_web.specs.declared.answers.Answer.{Answer}
use Rattle.its_web.specs.declared.answers.Answer.TheVariants.{Answered, Refused}

-- the number of a status: that of the command's exit
abbrev pub code : Status → ℕ
code status.Ok = 0
code status.ScriptRefused = 1
code status.WordsRefused = 2
code status.ReadFault = 3
code status.WriteFault = 4
code status.Memory = 5
code status.MachineRefused = 6
code status.MigrationRefused = 7
code status.Spent = 8
code status.TooLong = 9
code status.TraceDiffers = 10
code status.BadTrace = 11
code status.Undecided = 12

-- its status and text are caused so
abbrev pub IsCaused : (Status → List ℕ → Type 0) → Answer → Type 0
IsCaused causes (Answered e) = causes e.status (string_bytes e.line)
IsCaused causes (Refused s) = causes s (refusal_text s)

abbrev pub status_of : Answer → Status
status_of (Answered e) = e.status
status_of (Refused s) = s

abbrev pub text_of : Answer → List ℕ
text_of (Answered e) = string_bytes e.line
text_of (Refused s) = refusal_text s

-- a status as its number, a text's length, and as much of the text as there is room for
pub record IsPut (status : Status) (text : List ℕ) (number : ℕ) (old new : List ℕ) (len : ℕ) : Type 0 where
  pub number_is : number ≡ code status
  pub len_is : len ≡ length text
  pub whole : length text ≤ length old → new ≡ text ++ drop (length text) old
  pub part : length old < length text → new ≡ take (length old) text

-- of a status and a text that are caused so
pub record IsGiven (causes : Status → List ℕ → Type 0) (number : ℕ) (old new : List ℕ) (len : ℕ) : Type 0 where
  pub status : Status
  pub text : List ℕ
  pub caused : causes status text
  pub put : IsPut status text number old new len
