-- Jobs before their work and after it.
use Rattle.std.specs.Prelude.{◌≡◌, ◌<◌, ◌≤◌, ℕ, suc, List, [], ◌∷◌, ◌++◌, length, Option, Some, None, IsSome, Vec, vec_capacity}
use Rattle.std.specs.Global.{Global}
use mathlib.Core.List.{IsPrefix}
use Rattle.its_types.specs.declared.machine.Placed.{Placed}
use Rattle.its_plain.specs.Runs.{Thread}
use Rattle.its_plain.specs.declared.call.Entry.{Entry}
use Rattle.its_plain.specs.declared.call.Reply.{Reply}
use Rattle.its_steps.specs.World.{View, entry}
use Rattle.its_turns.specs.Machines.{view, IsOf}
use Rattle.its_turns.specs.declared.machine.Machine.{Machine}
use Rattle.script_threads.specs.Asks.{MayAskAll}
use Rattle.script_threads.specs.Phases.{IsCutAtMemory}
use Rattle.script_threads.specs.declared.job.Job.{Job}
use Rattle.script_threads.specs.declared.stop.Stop.{Stop}
use Rattle.script_threads.specs.declared.stop.Stop.TheVariants.{Spent, NoMemory}

-- the entries of the first calls, which have these replies
abbrev pub entries_of : ℕ → Thread → List (Placed Reply) → List (ℕ × Entry)
entries_of number [] done = []
entries_of number (c ∷ calls) [] = []
entries_of number (c ∷ calls) (r ∷ done) = (r.place, entry number c r.reply) ∷ entries_of number calls done

-- a pass before some calls and after them
pub record GoesFree (v w : View) : Type 0 where
  pub setup : w.setup ≡ v.setup
  pub number : w.number ≡ v.number
  pub held : w.held ≡ []

-- The pass made the first of these calls, each once and in order, and has these replies: all, where nothing stopped it
pub record Ran (v : View) (calls : Thread) (stop : Option Stop) (done : List (Placed Reply)) (w : View) : Type 0 where
  pub free : GoesFree v w
  pub longer : IsPrefix v.seen w.seen
  pub mine : w.mine ≡ v.mine ++ entries_of v.number calls done
  pub most : length done ≤ length calls
  pub whole : stop ≡ None → length done ≡ length calls
  pub cut : IsSome stop → length done < length calls
  pub spent : stop ≡ Some Spent → length w.seen ≡ v.setup.limits.place_last
  pub memory : stop ≡ Some NoMemory → IsCutAtMemory calls done

-- the same, k calls in
pub record Doing (v : View) (calls : Thread) (k : ℕ) (done : List (Placed Reply)) (w : View) : Type 0 where
  pub free : GoesFree v w
  pub longer : IsPrefix v.seen w.seen
  pub mine : w.mine ≡ v.mine ++ entries_of v.number calls done
  pub count : length done ≡ k

pub record IsReady (m : Machine) (j : Job) : Type 0 where
  pub of : IsOf m j.pass
  pub free : (view j.pass).held ≡ []
  pub may : MayAskAll m j.calls.now
  pub empty : j.done.items ≡ []
  pub room : length j.calls.now ≤ vec_capacity j.done

pub record Worked (m : Machine) (a b : Job) : Type 0 where
  pub of : IsOf m b.pass
  pub calls : b.calls ≡ a.calls
  pub ran : Ran (view a.pass) a.calls.now b.stop b.done.items (view b.pass)

-- R holds at each place of both lists, which are of one length
abbrev pub Both : {A : Type 0} → (A → A → Type 0) → List A → List A → Type 0
Both R [] [] = Unit {0}
Both R (x ∷ xs) (y ∷ ys) = R x y × Both R xs ys
Both R _ _ = ⊥

-- its pass can be joined
abbrev pub IsFreeJob : Machine → Job → Type 0
IsFreeJob m j = IsOf m j.pass × ((view j.pass).held ≡ [])

abbrev pub call_list : Job → Thread
call_list j = j.calls.now

abbrev pub reply_list : Job → List (Placed Reply)
reply_list j = j.done.items

-- the number of its pass, and the calls that this made
abbrev pub end_of : Job → ℕ × List (ℕ × Entry)
end_of j = ((view j.pass).number, (view j.pass).mine)

-- their passes have the numbers m, m + 1, .., and made no call
abbrev pub AreNew : ℕ → List Job → Type 0
AreNew m [] = Unit {0}
AreNew m (j ∷ js) = ((view j.pass).number ≡ m) × ((view j.pass).mine ≡ []) × AreNew (suc m) js

-- an empty list for each thread, with room for its calls
abbrev pub HasRoom : List Thread → List (Vec (Placed Reply) Global) → Type 0
HasRoom [] [] = Unit {0}
HasRoom (calls ∷ threads) (done ∷ lists) = (done.items ≡ []) × (length calls ≤ vec_capacity done) × HasRoom threads lists
HasRoom _ _ = ⊥

-- w has seen all that the job's pass had
abbrev pub SeenBy : View → Job → Type 0
SeenBy w j = IsPrefix (view j.pass).seen w.seen

-- of two threads' stops, one where memory ran out comes first
abbrev pub worse : Option Stop → Option Stop → Option Stop
worse (Some NoMemory) later = Some NoMemory
worse first None = first
worse first (Some s) = Some s

abbrev pub worst_from : Option Stop → List Job → Option Stop
worst_from first [] = first
worst_from first (j ∷ js) = worst_from (worse first j.stop) js
