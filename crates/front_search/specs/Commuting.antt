-- Calls that commute, and when a call goes at once: no other has to be tried at its front.
use Rattle.std.specs.Prelude.{◌≡◌, ◌≢◌, ℕ, ◌+◌, ◌≤◌, List, Some}
use Rattle.front_search.specs.Fits.{Answers, Fits}
use Rattle.front_search.specs.Fronts.{Threads, Front, MayGo, call_of, placed}
use Rattle.front_search.specs.declared.span.Span.{Span}

-- what fits from the first state on fits from the second too
abbrev pub FitsToo : {S : Type 0} → Answers S → (S → Type 0) → S → S → Type 0
FitsToo went IsEnd u v = (threads : Threads) (front : Front) (order : List ℕ) → Fits went IsEnd threads front u order → Fits went IsEnd threads front v order

-- From a state on, call k of thread i goes and then call l of thread j, and what fits from w on fits then too.
pub record GoesBefore {S : Type 0} (went : Answers S) (IsEnd : S → Type 0) (i k j l : ℕ) (u w : S) : Type 0 where
  pub between : S
  pub first : went u i k between
  pub after : S
  pub second : went between j l after
  pub fits_too : FitsToo went IsEnd w after

-- Call k of thread i goes before call l of thread j in each state in which it goes right after it.
abbrev pub Commutes : {S : Type 0} → Answers S → (S → Type 0) → ℕ → ℕ → ℕ → ℕ → Type 0
Commutes {S = S} went IsEnd i k j l = (u v w : S) → went u j l v → went v i k w → GoesBefore went IsEnd i k j l u w

-- Thread j's calls that are left, as far as number l, began by a time. Only so may l be placed before a call that returned at that time.
abbrev pub BeginBy : Threads → Front → ℕ → ℕ → ℕ → Type 0
BeginBy threads front j l time = (n : ℕ) (span : Span) → placed front j ≤ n → n ≤ l → call_of threads j n ≡ Some span → span.begin ≤ time

-- a call commutes with those calls of thread j that are left and may be placed before it, where it returned at this time
abbrev pub CommutesWith : {S : Type 0} → Answers S → (S → Type 0) → Threads → Front → ℕ → ℕ → ℕ → ℕ → Type 0
CommutesWith went IsEnd threads front time i k j =
    (l : ℕ) (span : Span) → placed front j ≤ l → call_of threads j l ≡ Some span → BeginBy threads front j l time → Commutes went IsEnd i k j l

-- call k of thread i, if there is one, returned no earlier than at a time
abbrev pub ReturnsFrom : Threads → ℕ → ℕ → ℕ → Type 0
ReturnsFrom threads i k time = (later : Span) → call_of threads i k ≡ Some later → time ≤ later.end

-- A thread's next call returned no later than the one after it, and commutes with all calls of other threads that may be placed before it.
pub record PassesAll {S : Type 0} (went : Answers S) (IsEnd : S → Type 0) (threads : Threads) (front : Front) (i : ℕ) (span : Span) : Type 0 where
  pub is_next : call_of threads i (placed front i) ≡ Some span
  pub in_order : ReturnsFrom threads i (placed front i + 1) span.end
  pub commutes : (j : ℕ) → j ≢ i → CommutesWith went IsEnd threads front span.end i (placed front i) j

-- It may be placed, and it passes all.
pub record GoesAtOnce {S : Type 0} (went : Answers S) (IsEnd : S → Type 0) (threads : Threads) (front : Front) (i : ℕ) : Type 0 where
  pub may_go : MayGo threads front i
  pub passes : PassesAll went IsEnd threads front i may_go.span
