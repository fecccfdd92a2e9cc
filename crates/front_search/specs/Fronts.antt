-- Fronts: how many calls of each thread are placed, and which call may be placed next.
use Rattle.std.specs.Prelude.{◌≡◌, ℕ, ◌+◌, ◌<◌, ◌≤◌, List, [], length, replicate, slice_get, slice_index, slice_index_or, slice_set, Option, Some, None}
use Rattle.front_search.specs.declared.span.Span.{Span}

-- for each thread, in their order, when its calls began and returned
abbrev pub Threads : Type 0
Threads = List (List Span)

-- how many calls of each thread are placed
abbrev pub Front : Type 0
Front = List ℕ

-- none is placed
abbrev pub start : Threads → Front
start threads = replicate (length threads) 0

-- how many calls of a thread are placed, of which the first is 0
abbrev pub placed : Front → ℕ → ℕ
placed front i = slice_index front i

-- a call of a thread, of which the first is 0
abbrev pub call_of : Threads → ℕ → ℕ → Option Span
call_of threads i k = slice_get (slice_index_or threads i []) k

-- the first call of a thread that isn't placed
abbrev pub next_of : Threads → Front → ℕ → Option Span
next_of threads front i = call_of threads i (placed front i)

-- one more call of a thread is placed
abbrev pub more : Front → ℕ → Front
more front i = slice_set front i (placed front i + 1)

-- A thread's next call may be placed: no thread has a next call that returned before this one began. The calls of a thread return in their
-- order, so none of all that are left did.
pub record MayGo (threads : Threads) (front : Front) (i : ℕ) : Type 0 where
  pub span : Span
  pub is_next : next_of threads front i ≡ Some span
  pub none_before : (j : ℕ) (other : Span) → next_of threads front j ≡ Some other → span.begin ≤ other.end

-- a thread has a next call that returned before a time
pub record ReturnedBefore (threads : Threads) (front : Front) (i : ℕ) (time : ℕ) : Type 0 where
  pub span : Span
  pub is_next : next_of threads front i ≡ Some span
  pub before : span.end < time

-- all calls are placed
abbrev pub IsWhole : Threads → Front → Type 0
IsWhole threads front = (i : ℕ) → next_of threads front i ≡ None
