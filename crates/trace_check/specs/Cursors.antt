-- How far the calls of a leg are answered.
use Rattle.std.specs.Prelude.{ℕ, zero, suc, ◌+◌, ◌==◌, nat_lt, if◌then◌else◌, List, [], ◌∷◌, length, replicate, slice_get, slice_index, slice_set, Option}
use Rattle.std.specs.Prelude.{Some, None}
use Rattle.its_plain.specs.Runs.{Phase, Leg}
use Rattle.its_plain.specs.declared.call.Call.{Call}

-- the first phase that has calls left, its number, the phases after it, and how many calls of each of its threads are answered
pub record Progress : Type 0 where
  pub number : ℕ
  pub phases : Leg
  pub answered : List ℕ

abbrev pub at : ℕ → Leg → List ℕ → Progress
at number phases answered = record { number = number; phases = phases; answered = answered }

-- ---- phases

abbrev pub threads_of : Leg → Phase
threads_of [] = []
threads_of (threads ∷ later) = threads

abbrev pub later_of : Leg → Leg
later_of [] = []
later_of (threads ∷ later) = later

-- no call is answered
abbrev pub zeros : Phase → List ℕ
zeros threads = replicate (length threads) 0

abbrev pub one_if : ℕ → ℕ → ℕ
one_if n m = if nat_lt n m then 1 else 0

-- how many threads have calls left
abbrev pub open_count : Phase → List ℕ → ℕ
open_count (calls ∷ threads) (n ∷ ns) = one_if n (length calls) + open_count threads ns
open_count _ _ = 0

-- from this phase on, whose number is n, none of whose calls is answered
abbrev pub opened : ℕ → Leg → Progress
opened n [] = at n [] []
opened n (threads ∷ later) = if open_count threads (zeros threads) == 0 then opened (n + 1) later else at n (threads ∷ later) (zeros threads)

-- ---- calls

-- the next call of a thread, of which the first is 0
abbrev pub call_of : Phase → List ℕ → ℕ → Option Call
call_of (calls ∷ threads) (n ∷ ns) zero = slice_get calls n
call_of (calls ∷ threads) (n ∷ ns) (suc i) = call_of threads ns i
call_of _ _ _ = None

abbrev pub with_thread : ℕ → Option Call → Option (ℕ × Call)
with_thread i None = None
with_thread i (Some c) = Some (i, c)

-- the next call of a thread of a phase, both counted from 1
abbrev pub next_call : Progress → ℕ → ℕ → Option (ℕ × Call)
next_call p phase zero = None
next_call p phase (suc i) = if phase == p.number then with_thread i (call_of (threads_of p.phases) p.answered i) else None

-- one more call of a thread is answered
abbrev pub more : List ℕ → ℕ → List ℕ
more answered i = slice_set answered i (slice_index answered i + 1)

abbrev pub settled : ℕ → Leg → List ℕ → Progress
settled number phases answered = if open_count (threads_of phases) answered == 0 then opened (number + 1) (later_of phases) else at number phases answered

abbrev pub taken : ℕ → Progress → Progress
taken i p = settled p.number p.phases (more p.answered i)
