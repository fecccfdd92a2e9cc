-- Runs of a script: legs of phases of threads of calls.
use Rattle.std.specs.Prelude.{◌≡◌, ◌⊎◌, ℕ, suc, ◌+◌, ◌<◌, ◌≤◌, List, [], ◌∷◌, ◌++◌, length, sum_by}
use Rattle.std.specs.List.{AllByRecursion}
use mathlib.Core.List.{IsPrefix}
use Rattle.its_plain.specs.Plain.{Plain}
use Rattle.its_plain.specs.History.{IsLegal, after, calls_by}
use Rattle.its_plain.specs.Saved.{IsSavable, moved}
use Rattle.its_plain.specs.declared.call.Call.{Call}
use Rattle.its_plain.specs.declared.call.Entry.{Entry}

abbrev pub Thread : Type 0
Thread = List Call

abbrev pub Phase : Type 0
Phase = List Thread

abbrev pub Leg : Type 0
Leg = List Phase

-- how many calls its threads have
abbrev pub call_count : Leg → ℕ
call_count phases = sum_by (λ threads. sum_by (λ calls. length calls) threads) phases

-- ---- the calls of threads

-- the entry is of one of `count` passes, the first of which is `pass`
abbrev pub IsOfPasses : ℕ → ℕ → Entry → Type 0
IsOfPasses pass count e = (pass ≤ e.pass) × (e.pass < pass + count)

-- thread by thread a pass made just the thread's calls, in their order
abbrev pub HasCalls : ℕ → Phase → List Entry → Type 0
HasCalls pass [] h = Unit {0}
HasCalls pass (calls ∷ threads) h = (calls_by pass h ≡ calls) × HasCalls (suc pass) threads h

-- the first of them
abbrev pub HasFirstCalls : ℕ → Phase → List Entry → Type 0
HasFirstCalls pass [] h = Unit {0}
HasFirstCalls pass (calls ∷ threads) h = IsPrefix (calls_by pass h) calls × HasFirstCalls (suc pass) threads h

-- the entries of a phase whose first pass is `pass`: each thread's calls whole, and no other entry
pub record IsPhase (pass : ℕ) (threads : Phase) (h : List Entry) : Type 0 where
  pub only : AllByRecursion (IsOfPasses pass (length threads)) h
  pub calls : HasCalls pass threads h

pub record IsPartOfPhase (pass : ℕ) (threads : Phase) (h : List Entry) : Type 0 where
  pub only : AllByRecursion (IsOfPasses pass (length threads)) h
  pub calls : HasFirstCalls pass threads h

-- ---- phases, one after another

abbrev pub ArePhases : ℕ → Leg → List Entry → Type 0
ArePhases pass [] h = h ≡ []
ArePhases pass (threads ∷ phases) h = (now : List Entry) × (rest : List Entry) × (h ≡ now ++ rest) × IsPhase pass threads now
    × ArePhases (pass + length threads) phases rest

-- some phases whole, and then the first calls of the threads of one more
abbrev pub ArePartOfPhases : ℕ → Leg → List Entry → Type 0
ArePartOfPhases pass [] h = h ≡ []
ArePartOfPhases pass (threads ∷ phases) h =
    IsPartOfPhase pass threads h
    ⊎ ((now : List Entry) × (rest : List Entry) × (h ≡ now ++ rest) × IsPhase pass threads now × ArePartOfPhases (pass + length threads) phases rest)

-- ---- legs

-- the history of a leg from a state on: passes are numbered from 1
pub record IsLegRun (first : Plain) (leg : Leg) (h : List Entry) : Type 0 where
  pub legal : IsLegal first h
  pub calls : ArePhases 1 leg h

pub record IsPartOfLegRun (first : Plain) (leg : Leg) (h : List Entry) : Type 0 where
  pub legal : IsLegal first h
  pub calls : ArePartOfPhases 1 leg h

-- a history for each leg; the state after each leg but the last can be saved, and the next leg starts at the machine moved
abbrev pub IsRun : Plain → List Leg → List (List Entry) → Type 0
IsRun first [] hs = hs ≡ []
IsRun first (leg ∷ []) hs = (h : List Entry) × (hs ≡ h ∷ []) × IsLegRun first leg h
IsRun first (leg ∷ next ∷ legs) hs =
    (h : List Entry) × (rest : List (List Entry)) × (hs ≡ h ∷ rest) × IsLegRun first leg h × IsSavable (after first h)
    × IsRun (moved (after first h)) (next ∷ legs) rest

-- some legs whole, each with a state after it that can be saved, and then part of one more
abbrev pub IsPartialRun : Plain → List Leg → List (List Entry) → Type 0
IsPartialRun first [] hs = ⊥
IsPartialRun first (leg ∷ legs) hs =
    ((h : List Entry) × (hs ≡ h ∷ []) × IsPartOfLegRun first leg h)
    ⊎ ((h : List Entry) × (rest : List (List Entry)) × (hs ≡ h ∷ rest) × IsLegRun first leg h × IsSavable (after first h)
    × IsPartialRun (moved (after first h)) legs rest)
