-- How far a search is.
use Rattle.std.specs.Prelude.{◌≡◌, ℕ, ◌+◌, ◌^◌, ◌<◌, List, [], ◌∷◌, length}
use Rattle.front_search.specs.Fits.{Answers, GoesTo, Leads, Fits}
use Rattle.front_search.specs.Fronts.{Threads, Front, MayGo, more, placed, start}
use Rattle.front_search.specs.Sleeping.{NoneWith, Asleep}
use Rattle.front_search.specs.declared.trail.Placed.{Placed}
use Rattle.front_search.specs.declared.trail.Search.{Search}

-- from here on no order fits that begins with a thread below n
abbrev pub NoneBelow : {S : Type 0} → Answers S → (S → Type 0) → Threads → Front → S → ℕ → Type 0
NoneBelow went IsEnd threads front u n = (i : ℕ) (order : List ℕ) → i < n → ¬ Fits went IsEnd threads front u (i ∷ order)

-- Where no order fits that begins with thread i, none fits that begins with one below n.
abbrev pub IsEnough : {S : Type 0} → Answers S → (S → Type 0) → Threads → Front → S → ℕ → ℕ → Type 0
IsEnough went IsEnd threads front u i n = NoneWith went IsEnd threads front u i → NoneBelow went IsEnd threads front u n

-- a placed call goes and leads to this state, and where it fails the search may go on at its next thread
pub record Steps {S : Type 0} (went : Answers S) (IsEnd : S → Type 0) (threads : Threads) (front : Front) (u : S) (p : Placed S) (w : S) : Type 0 where
  pub goes : GoesTo went threads front u p.thread w
  -- it leads to no other state
  pub one_state : (x : S) → went u p.thread (placed front p.thread) x → x ≡ w
  pub enough : IsEnough went IsEnd threads front u p.thread p.next
  pub asleep : Asleep went IsEnd threads front u p.asleep.items
  pub before : p.before ≡ u

-- from a front and a state on, these calls were placed, and led to another front and state
abbrev pub Trail : {S : Type 0} → Answers S → (S → Type 0) → Threads → Front → S → List (Placed S) → Front → S → Type 0
Trail went IsEnd threads front u [] front' u' = (front ≡ front') × (u ≡ u')
Trail {S = S} went IsEnd threads front u (p ∷ path) front' u' = (w : S) × Steps went IsEnd threads front u p w
    × Trail went IsEnd threads (more front p.thread) w path front' u'

-- a thread's next call goes where a search stands, and leads to this state alone
pub record GoesOn {S : Type 0} (went : Answers S) (threads : Threads) (s : Search S) (i : ℕ) (w : S) : Type 0 where
  pub below : i < length threads
  pub may_go : MayGo threads s.front.items i
  pub answered : went s.state i (placed s.front.items i) w
  pub one_state : (x : S) → went s.state i (placed s.front.items i) x → x ≡ w
  pub counted : placed s.front.items i + 1 < 2 ^ 64

-- the calls of the order go one after another from the start
abbrev pub IsReached : {S : Type 0} → Answers S → Threads → S → List ℕ → Type 0
IsReached {S = S} went threads first order = (front : Front) × (u : S) × Leads went threads (start threads) first order front u

-- where a search from the start and a first state stands
pub record IsAt {S : Type 0} (went : Answers S) (IsEnd : S → Type 0) (threads : Threads) (first : S) (s : Search S) : Type 0 where
  pub trail : Trail went IsEnd threads (start threads) first s.path.items s.front.items s.state
  pub none_below : NoneBelow went IsEnd threads s.front.items s.state s.next
  pub asleep : Asleep went IsEnd threads s.front.items s.state s.asleep.items
  pub long : length s.front.items ≡ length threads
  pub reached : IsReached went threads first s.reached.items

-- some search stands so
abbrev pub IsSomewhere : {S : Type 0} → Answers S → (S → Type 0) → Threads → Search S → Type 0
IsSomewhere {S = S} went IsEnd threads s = (first : S) × IsAt went IsEnd threads first s

-- no order fits from the start
abbrev pub NoneFits : {S : Type 0} → Answers S → (S → Type 0) → Threads → S → Type 0
NoneFits went IsEnd threads first = (order : List ℕ) → ¬ Fits went IsEnd threads (start threads) first order
