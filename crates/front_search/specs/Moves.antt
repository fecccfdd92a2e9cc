-- How the program moves a search.
use Rattle.std.specs.Prelude.{◌≡◌, ◌⊎◌, ℕ, ◌-◌, List, [], ◌∷◌, ◌++◌, map, slice_set}
use Rattle.front_search.specs.Fronts.{Threads, Front, more, placed, start}
use Rattle.front_search.specs.declared.trail.Placed.{Placed}
use Rattle.front_search.specs.declared.trail.Search.{Search}

-- the threads of some calls
abbrev pub threads_of : {S : Type 0} → List (Placed S) → List ℕ
threads_of {S = S} path = map (λ (p : Placed S). p.thread) path

-- one call of a thread less is placed
abbrev pub less : Front → ℕ → Front
less front i = slice_set front i (placed front i - 1)

-- no call is placed yet
pub record IsNew {S : Type 0} (threads : Threads) (first : S) (s : Search S) : Type 0 where
  pub path : s.path.items ≡ []
  pub front : s.front.items ≡ start threads
  pub state : s.state ≡ first
  pub next : s.next ≡ 0
  pub asleep : s.asleep.items ≡ []
  pub reached : s.reached.items ≡ []

-- a thread's next call is placed, and leaves this state, in which these threads sleep; the search goes on at this thread where it is taken back
pub record IsPlaced {S : Type 0} (thread next : ℕ) (state : S) (asleep : List ℕ) (s t : Search S) : Type 0 where
  pub path : t.path.items ≡ s.path.items ++ record { thread = thread; before = s.state; next = next; asleep = s.asleep } ∷ []
  pub front : t.front.items ≡ more s.front.items thread
  pub state_is : t.state ≡ state
  pub starts : t.next ≡ 0
  pub asleep_are : t.asleep.items ≡ asleep
  pub reached : t.reached.items ≡ s.reached.items

-- the threads below this one are left out
pub record IsSkipped {S : Type 0} (next : ℕ) (s t : Search S) : Type 0 where
  pub path : t.path.items ≡ s.path.items
  pub front : t.front.items ≡ s.front.items
  pub state : t.state ≡ s.state
  pub goes_on : t.next ≡ next
  pub asleep : t.asleep.items ≡ s.asleep.items
  pub reached : t.reached.items ≡ s.reached.items

-- what is reached may be this order of calls now
pub record IsKept {S : Type 0} (s t : Search S) : Type 0 where
  pub path : t.path.items ≡ s.path.items
  pub front : t.front.items ≡ s.front.items
  pub state : t.state ≡ s.state
  pub next : t.next ≡ s.next
  pub asleep : t.asleep.items ≡ s.asleep.items
  pub reached : (t.reached.items ≡ s.reached.items) ⊎ (t.reached.items ≡ threads_of s.path.items)

-- no call is placed
pub record IsEmpty {S : Type 0} (s t : Search S) : Type 0 where
  pub path : s.path.items ≡ []
  pub reached : t.reached.items ≡ s.reached.items

-- a call is taken from the end of the path
pub record IsTaken {S : Type 0} (p : Placed S) (s t : Search S) : Type 0 where
  pub path : s.path.items ≡ t.path.items ++ p ∷ []
  pub front : t.front.items ≡ s.front.items
  pub state : t.state ≡ s.state
  pub next : t.next ≡ s.next
  pub reached : t.reached.items ≡ s.reached.items

-- the search stands where it stood before a call
pub record IsReturned {S : Type 0} (p : Placed S) (s t : Search S) : Type 0 where
  pub path : t.path.items ≡ s.path.items
  pub front : t.front.items ≡ less s.front.items p.thread
  pub state : t.state ≡ p.before
  pub next : t.next ≡ p.next
  pub asleep : t.asleep.items ≡ p.asleep.items
  pub reached : t.reached.items ≡ s.reached.items
