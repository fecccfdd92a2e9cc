-- What a phase does.
use Rattle.std.specs.Prelude.{◌≡◌, ◌⊎◌, ◌<◌, ◌≤◌, ℕ, zero, suc, ◌+◌, List, [], ◌∷◌, ◌++◌, length, sum_by, Option, Some, None, IsSome}
use Rattle.its_types.specs.declared.machine.Placed.{Placed}
use Rattle.its_plain.specs.History.{IsLegal}
use Rattle.its_plain.specs.Runs.{Thread, Phase, IsPhase, IsPartOfPhase}
use Rattle.its_plain.specs.declared.call.Entry.{Entry}
use Rattle.its_plain.specs.declared.call.Reply.{Reply}
use Rattle.its_history.specs.Histories.{replies_by}
use Rattle.its_steps.specs.World.{View}
use Rattle.script_threads.specs.Asks.{TakesMemory}
use Rattle.script_threads.specs.Rests.{Rests}
use Rattle.script_threads.specs.declared.stop.Stop.{Stop}
use Rattle.script_threads.specs.declared.stop.Stop.TheVariants.{Spent, NoMemory}

-- the replies of the passes m, m + 1, .., of which there are count, each with its place, where the first entry has the place n
abbrev pub replies_of : ℕ → ℕ → ℕ → List Entry → List (List (Placed Reply))
replies_of m zero n h = []
replies_of m (suc count) n h = replies_by m n h ∷ replies_of (suc m) count n h

-- of some thread, its calls and its replies are so
abbrev pub SomeThread : (Thread → List (Placed Reply) → Type 0) → Phase → List (List (Placed Reply)) → Type 0
SomeThread P [] lists = ⊥
SomeThread P (calls ∷ threads) [] = ⊥
SomeThread P (calls ∷ threads) (done ∷ lists) = P calls done ⊎ SomeThread P threads lists

-- some call wasn't made
abbrev pub IsCut : Thread → List (Placed Reply) → Type 0
IsCut calls done = length done < length calls

-- the first call that wasn't made takes memory
abbrev pub IsCutAtMemory : Thread → List (Placed Reply) → Type 0
IsCutAtMemory [] done = ⊥
IsCutAtMemory (c ∷ calls) [] = TakesMemory c
IsCutAtMemory (c ∷ calls) (r ∷ done) = IsCutAtMemory calls done

-- how many calls the threads have
abbrev pub calls_of : Phase → ℕ
calls_of threads = sum_by (λ calls. length calls) threads

-- The root's history grew by the first calls of these threads, by all of them where nothing stopped a thread, and by no other
-- entry. Each list is the replies of one thread, with their places. A thread that ran out of memory is told before one that
-- found all places used
pub record Phased (v : View) (threads : Phase) (lists : List (List (Placed Reply))) (stop : Option Stop) (w : View) : Type 0 where
  pub rests : Rests w
  pub setup : w.setup ≡ v.setup
  pub made : w.root.made ≡ v.root.made + length threads
  pub legal : IsLegal v.setup.start w.seen
  pub more : List Entry
  pub seen : w.seen ≡ v.seen ++ more
  pub part : IsPartOfPhase v.root.made threads more
  pub whole : stop ≡ None → IsPhase v.root.made threads more
  pub lists_are : lists ≡ replies_of v.root.made (length threads) (length v.seen) more
  pub fits : length w.seen ≤ v.setup.limits.place_last
  pub all : stop ≡ None → length more ≡ calls_of threads
  pub short : IsSome stop → length more < calls_of threads
  pub spent : stop ≡ Some Spent → SomeThread IsCut threads lists × (length w.seen ≡ v.setup.limits.place_last)
  pub memory : stop ≡ Some NoMemory → SomeThread IsCutAtMemory threads lists
