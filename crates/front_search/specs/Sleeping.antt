-- Threads that sleep at a front: no order that fits begins with one of them there, so none has to be tried. A thread that was tried at a front, and
-- found to fit nowhere, sleeps there. It sleeps on when another thread's call is placed with which its own commutes: an order that begins
-- with the two calls fits only where it fits with the two swapped.
use Rattle.std.specs.Prelude.{◌≡◌, ◌≢◌, ◌⊎◌, ℕ, Bool, ◌+◌, ◌==◌, ◌<◌, ◌≤◌, List, ◌∷◌, true, Some}
use Rattle.std.specs.List.{AllByRecursion, list_any}
use Rattle.front_search.specs.Commuting.{Commutes, ReturnsFrom}
use Rattle.front_search.specs.Fits.{Answers, Fits}
use Rattle.front_search.specs.Fronts.{Threads, Front, next_of, placed}
use Rattle.front_search.specs.declared.span.Span.{Span}

-- from here on no order fits that begins with thread i
abbrev pub NoneWith : {S : Type 0} → Answers S → (S → Type 0) → Threads → Front → S → ℕ → Type 0
NoneWith went IsEnd threads front u i = (order : List ℕ) → ¬ Fits went IsEnd threads front u (i ∷ order)

-- none that begins with one of these threads
abbrev pub Asleep : {S : Type 0} → Answers S → (S → Type 0) → Threads → Front → S → List ℕ → Type 0
Asleep went IsEnd threads front u asleep = AllByRecursion (NoneWith went IsEnd threads front u) asleep

-- none that begins with thread n or a higher one
abbrev pub NoneFrom : {S : Type 0} → Answers S → (S → Type 0) → Threads → Front → S → ℕ → Type 0
NoneFrom went IsEnd threads front u n = (j : ℕ) → n ≤ j → NoneWith went IsEnd threads front u j

-- a thread is one of these
abbrev pub is_asleep : List ℕ → ℕ → Bool
is_asleep asleep i = list_any (λ j. j == i) asleep

-- The next calls of threads i and j may be swapped where j's comes first and i's second: they commute, and the times forbid neither order.
pub record MaySwap {S : Type 0} (went : Answers S) (IsEnd : S → Type 0) (threads : Threads) (front : Front) (i j : ℕ) : Type 0 where
  pub two : j ≢ i
  pub span : Span
  pub is_next : next_of threads front i ≡ Some span
  pub other : Span
  pub is_other : next_of threads front j ≡ Some other
  pub begun : span.begin ≤ other.end
  pub later : ReturnsFrom threads i (placed front i + 1) other.begin
  pub commutes : Commutes went IsEnd i (placed front i) j (placed front j)

-- A thread sleeps on when thread j's next call is placed: it is one below n or one of these, and the two calls may be swapped.
pub record SleepsOn {S : Type 0} (went : Answers S) (IsEnd : S → Type 0) (threads : Threads) (front : Front) (n : ℕ) (asleep : List ℕ) (j i : ℕ) : Type 0 where
  pub slept : (i < n) ⊎ (is_asleep asleep i ≡ true)
  pub may_swap : MaySwap went IsEnd threads front i j
