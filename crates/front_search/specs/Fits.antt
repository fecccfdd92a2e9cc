-- Orders of the calls of threads that fit what each call was answered. An order is a list of threads: where a thread stands in it once more, its
-- next call is placed.
use Rattle.std.specs.Prelude.{ℕ, List, [], ◌∷◌, ◌≡◌}
use Rattle.front_search.specs.Fronts.{Threads, Front, MayGo, IsWhole, more, placed}

-- A state, a call by its thread and its number there, and the state after it, where the call is answered in the first as it was recorded.
abbrev pub Answers : Type 0 → Type 1
Answers S = S → ℕ → ℕ → S → Type 0

-- the thread's next call may be placed, and it is answered so; w is the state after it
pub record GoesTo {S : Type 0} (went : Answers S) (threads : Threads) (front : Front) (u : S) (i : ℕ) (w : S) : Type 0 where
  pub may_go : MayGo threads front i
  pub answered : went u i (placed front i) w

-- from a front and a state on, the calls go in this order, and lead to another front and state
abbrev pub Leads : {S : Type 0} → Answers S → Threads → Front → S → List ℕ → Front → S → Type 0
Leads went threads front u [] front' u' = (front ≡ front') × (u ≡ u')
Leads {S = S} went threads front u (i ∷ order) front' u' = (w : S) × GoesTo went threads front u i w × Leads went threads (more front i) w order front' u'

-- the calls that are left go in this order, to a state that may be the last
abbrev pub Fits : {S : Type 0} → Answers S → (S → Type 0) → Threads → Front → S → List ℕ → Type 0
Fits went IsEnd threads front u [] = IsWhole threads front × IsEnd u
Fits {S = S} went IsEnd threads front u (i ∷ order) = (w : S) × GoesTo went threads front u i w × Fits went IsEnd threads (more front i) w order
