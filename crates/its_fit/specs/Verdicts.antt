-- What a verdict says.
use Rattle.std.specs.Prelude.{◌≡◌, ℕ, List, [], ◌∷◌}
use Rattle.front_search.specs.Trails.{IsReached}
use Rattle.its_plain.specs.Plain.{Plain}
use Rattle.its_plain.specs.Described.{IsFirstState}
use Rattle.its_plain.specs.Runs.{Phase}
use Rattle.its_plain.specs.declared.desc.Desc.{Desc}
use Rattle.its_history.specs.declared.trace.Leg.{Leg as LegLines}
use Rattle.its_fit.specs.Explained.{Line, Explains, report_of}
use Rattle.its_fit.specs.Replays.{Goes, spans_of}
use Rattle.its_fit.specs.declared.search.Verdict.{Verdict}
use Rattle.its_fit.specs.declared.search.Verdict.TheVariants.{Fits, Nowhere, Undecided, Unconfirmed}
use Rattle.its_fit.specs.declared.told.Told.{Told}

-- The description makes a machine, and these legs are the report of an order that explains what the threads of this machine were answered.
pub record IsFit (d : Desc) (calls : Phase) (told : Told) (legs : List LegLines) : Type 0 where
  pub made : (first : Plain) × IsFirstState d first
  pub lines : List Line
  pub explains : (first : Plain) → IsFirstState d first → Explains first calls told lines
  pub report : legs ≡ report_of lines told.pending ∷ []

-- no order explains it
abbrev pub IsMisfit : Desc → Phase → Told → Type 0
IsMisfit d calls told = (first : Plain) (lines : List Line) → IsFirstState d first → ¬ Explains first calls told lines

-- From the start on some of what is told goes in this order.
abbrev pub IsStart : Desc → Phase → Told → List ℕ → Type 0
IsStart d calls told order = IsReached (Goes d calls told) (spans_of told.threads) [] order

abbrev pub IfFits : Verdict → (List LegLines → Type 0) → Type 0
IfFits (Fits trace) P = P trace.legs
IfFits (Nowhere reached) P = Unit {0}
IfFits (Undecided tried) P = Unit {0}
IfFits (Unconfirmed order) P = Unit {0}

abbrev pub IfNowhere : Verdict → Type 0 → Type 0
IfNowhere (Fits trace) P = Unit {0}
IfNowhere (Nowhere reached) P = P
IfNowhere (Undecided tried) P = Unit {0}
IfNowhere (Unconfirmed order) P = Unit {0}

abbrev pub IfReached : Verdict → (List ℕ → Type 0) → Type 0
IfReached (Fits trace) P = Unit {0}
IfReached (Nowhere reached) P = P reached.items
IfReached (Undecided tried) P = Unit {0}
IfReached (Unconfirmed order) P = Unit {0}

abbrev pub IfUndecided : Verdict → (ℕ → Type 0) → Type 0
IfUndecided (Fits trace) P = Unit {0}
IfUndecided (Nowhere reached) P = Unit {0}
IfUndecided (Undecided tried) P = P tried
IfUndecided (Unconfirmed order) P = Unit {0}

abbrev pub IfUnconfirmed : Verdict → (List ℕ → Type 0) → Type 0
IfUnconfirmed (Fits trace) P = Unit {0}
IfUnconfirmed (Nowhere reached) P = Unit {0}
IfUnconfirmed (Undecided tried) P = Unit {0}
IfUnconfirmed (Unconfirmed order) P = P order.items
