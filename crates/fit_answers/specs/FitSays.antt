-- What is said to a script, a line `trace`, and what its threads were told.
use Rattle.std.specs.Prelude.{◌≡◌, ◌≢◌, ◌⊎◌, ℕ, suc, ◌<◌, List, [], ◌∷◌, ◌++◌, length, codes, decimal, replicate, slice_index_or, Ok, Err, Option, IfSome}
use Rattle.its_plain.specs.Plain.{Plain}
use Rattle.its_plain.specs.Runs.{Phase}
use Rattle.its_plain.specs.declared.desc.Desc.{Desc}
use Rattle.event_script.specs.declared.script.Script.{Script}
use Rattle.its_history.specs.Report.{report_text}
use Rattle.its_history.specs.declared.trace.Leg.{Leg as LegLines}
use Rattle.its_fit.specs.Explained.{told_by}
use Rattle.its_fit.specs.Replays.{IsOrder}
use Rattle.its_fit.specs.Verdicts.{IsFit, IsMisfit, IsStart}
use Rattle.its_fit.specs.declared.told.Answered.{Answered}
use Rattle.its_fit.specs.declared.told.Told.{Told}
use Rattle.its_answers.specs.Checked.{IsCheckInput, IsNoMachine, IsNoScript}
use Rattle.its_answers.specs.Refusals.{trace_refusal}
use Rattle.its_answers.specs.Streams.{WasRead}
use Rattle.its_answers.specs.declared.status.Status.{Status}
use Rattle.its_answers.specs.declared.status.Status.TheVariants as status
use Rattle.fit_answers.specs.Reached.{reached_lines}
use Rattle.fit_answers.specs.ToldText.{told_of}

-- ---- lines

unfoldable pub undecided_text : ℕ → List ℕ
undecided_text bound = codes "undecided " ++ decimal bound ++ codes "\n"

-- of a thread with a number
unfoldable pub replies_refusal : ℕ → List ℕ
replies_refusal thread = codes "refused replies " ++ decimal thread ++ codes "\n"

-- ---- replies

-- a thread, of which the first is 0, has as many replies as calls
abbrev pub HasAll : Phase → List (List Answered) → ℕ → Type 0
HasAll calls threads i = length (slice_index_or calls i []) ≡ length (told_by threads i)

abbrev pub AllHaveAll : Phase → List (List Answered) → Type 0
AllHaveAll calls threads = (i : ℕ) → i < length calls → HasAll calls threads i

-- the first thread that hasn't, of which the first is 1
pub record IsUneven (calls : Phase) (threads : List (List Answered)) (number : ℕ) : Type 0 where
  pub thread : ℕ
  pub counted : number ≡ suc thread
  pub below : thread < length calls
  pub uneven : ¬ HasAll calls threads thread
  pub earlier : (i : ℕ) → i < thread → HasAll calls threads i

-- ---- what is well formed

-- the bytes are a script that describes a machine, whose one leg has one phase, of these calls
pub record IsOnePhase (input : List ℕ) (script : Script) (calls : Phase) (report : List ℕ) : Type 0 where
  pub first : Plain
  pub is_input : IsCheckInput input script first report
  pub one : script.legs ≡ (calls ∷ []) ∷ []

-- and what its threads were told, each of as many calls as it makes
pub record IsFitInput (input : List ℕ) (script : Script) (calls : Phase) (told : Told) : Type 0 where
  pub report : List ℕ
  pub is_phase : IsOnePhase input script calls report
  pub is_told : told_of (length calls) script.desc.shape.vcpus report ≡ Ok told
  pub all : AllHaveAll calls told.threads

-- ---- what is said of it

-- Nothing explains it. The lines of some calls follow, which go in this order from the start, each answered as it was, and then others.
pub record IsNowhere (d : Desc) (calls : Phase) (told : Told) (text : List ℕ) : Type 0 where
  pub none : IsMisfit d calls told
  pub order : List ℕ
  pub goes : IsStart d calls told order
  pub more : List ℕ
  pub text_is : text ≡ codes "fits nowhere\n" ++ (reached_lines told.threads (replicate (length told.threads) 0) 0 order ++ more)

-- Not decided. The lines of an order of the calls follow, in which each is answered as it was, and after which just that is pending which is told;
-- no report of it was found to be that of a run.
pub record IsUnconfirmed (d : Desc) (calls : Phase) (told : Told) (text : List ℕ) : Type 0 where
  pub order : List ℕ
  pub fits : IsOrder d calls told order
  pub text_is : text ≡ codes "unconfirmed\n" ++ reached_lines told.threads (replicate (length told.threads) 0) 0 order

-- A report with places explains it; or nothing does; or it isn't decided: the bound was met, or an order was found of which no report was confirmed.
abbrev pub ToldSays : Desc → Phase → Told → ℕ → Status → List ℕ → Type 0
ToldSays d calls told bound status.Ok text = (legs : List LegLines) × (IsFit d calls told legs × (text ≡ codes "fits\n" ++ report_text legs))
ToldSays d calls told bound status.TraceDiffers text = IsNowhere d calls told text
ToldSays d calls told bound status.Undecided text = (text ≡ undecided_text bound) ⊎ IsUnconfirmed d calls told text
ToldSays d calls told bound _ text = ⊥

pub record OfTold (bound : ℕ) (s : Status) (input text : List ℕ) : Type 0 where
  pub script : Script
  pub calls : Phase
  pub told : Told
  pub is_input : IsFitInput input script calls told
  pub says : ToldSays script.desc calls told bound s text

-- ---- refusals

-- the script has more than one leg or phase
pub record HasManyPhases (input text : List ℕ) : Type 0 where
  pub script : Script
  pub first : Plain
  pub report : List ℕ
  pub is_input : IsCheckInput input script first report
  pub many : (calls : Phase) → script.legs ≢ (calls ∷ []) ∷ []
  pub text_is : text ≡ codes "refused phases\n"

-- a line isn't as it must be, and this is the first
pub record HasBadLine (input text : List ℕ) : Type 0 where
  pub script : Script
  pub calls : Phase
  pub report : List ℕ
  pub is_phase : IsOnePhase input script calls report
  pub line : ℕ
  pub is_bad : told_of (length calls) script.desc.shape.vcpus report ≡ Err line
  pub text_is : text ≡ trace_refusal line

-- a thread has another number of calls than of replies
pub record IsUnevenInput (input text : List ℕ) : Type 0 where
  pub script : Script
  pub calls : Phase
  pub report : List ℕ
  pub told : Told
  pub is_phase : IsOnePhase input script calls report
  pub is_told : told_of (length calls) script.desc.shape.vcpus report ≡ Ok told
  pub number : ℕ
  pub uneven : IsUneven calls told.threads number
  pub text_is : text ≡ replies_refusal number

abbrev pub IsBadTold : List ℕ → List ℕ → Type 0
IsBadTold input text = HasManyPhases input text ⊎ (HasBadLine input text ⊎ IsUnevenInput input text)

-- ---- the whole of it

-- what is said to bytes, where so many calls may be tried
abbrev pub FitSays : List ℕ → ℕ → Status → List ℕ → Type 0
FitSays input bound status.ScriptRefused text = IsNoScript input text
FitSays input bound status.MachineRefused text = IsNoMachine input text
FitSays input bound status.BadTrace text = IsBadTold input text
FitSays input bound s text = OfTold bound s input text

-- the same of each input that has this script and report
abbrev pub ScriptSays : Script → List ℕ → ℕ → Status → List ℕ → Type 0
ScriptSays script report bound s text = (input : List ℕ) (first : Plain) → IsCheckInput input script first report → FitSays input bound s text

-- what is well formed is answered
abbrev pub IsVerdict : Status → Type 0
IsVerdict status.Ok = Unit {0}
IsVerdict status.TraceDiffers = Unit {0}
IsVerdict status.Undecided = Unit {0}
IsVerdict _ = ⊥

abbrev pub IsAnswered : List ℕ → Status → Type 0
IsAnswered input s = (script : Script) (calls : Phase) (told : Told) → IsFitInput input script calls told → IsVerdict s

-- ---- of a source

-- what each status says of what a source tells and of its count of faults, and the text that is printed
abbrev pub FitCauses : ℕ → Option (List ℕ) → Type 0 → Status → List ℕ → Type 0
FitCauses bound told rose status.ReadFault text = rose × (text ≡ codes "refused read\n")
FitCauses bound told rose status.Memory text = text ≡ codes "refused memory\n"
FitCauses bound told rose status.TooLong text = IfSome told (λ all. 16777216 < length all) × (text ≡ codes "refused long\n")
FitCauses bound told rose s text = (input : List ℕ) × (WasRead told input × FitSays input bound s text)
