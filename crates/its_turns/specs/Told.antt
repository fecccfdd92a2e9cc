-- What each step tells its pass.
use Rattle.std.specs.Prelude.{◌≡◌, ◌≢◌, ℕ, ◌-◌, ◌*◌, ◌^◌, ◌<◌, Bool, true, false, not, ◌==◌, ◌||◌, ◌&&◌, nat_lt, List, [], ◌∷◌, length}
use Rattle.std.specs.List.{AllByRecursion}
use mathlib.Core.Option.{some}
use mathlib.Core.List.{IsPrefix}
use Rattle.atomic_table.specs.Table.{Me, Step, rest}
use Rattle.its_types.specs.declared.machine.Part.{Part}
use Rattle.its_types.specs.declared.machine.Word.{Word}
use Rattle.its_plain.specs.History.{IsLegal, after, placed}
use Rattle.its_plain.specs.declared.call.Call.TheVariants.{Save}
use Rattle.its_plain.specs.declared.call.Entry.{Entry}
use Rattle.its_plain.specs.declared.call.Reply.TheVariants.{Saved}
use Rattle.its_steps.specs.Parts.{Setup, Right, IsOfMachine, index_of}
use Rattle.its_steps.specs.Contents.{Content}
use Rattle.its_steps.specs.declared.change.ShardChange.TheVariants.{Keep}
use Rattle.its_steps.specs.World.{View, loaded, took, missed, committed, first_word}
use Rattle.its_steps.specs.Good.{Ended, Holds, IsWhole, IsWithin}
use Rattle.its_steps.specs.MayCommit.{IsRight}
use Rattle.its_steps.specs.Laws.{IsAlone}
use Rattle.its_steps.specs.Renewal.{renewal}
use Rattle.its_turns.specs.Contents.{content_of, IsFit, held_before}
use Rattle.its_turns.specs.Words.{unpacked, packing_of}
use Rattle.its_steps.specs.declared.commit.Commit.{Commit}
use Rattle.its_turns.specs.declared.value.Value.{Value}

abbrev Sat : Type 0
Sat = Me Value View

-- it is the root's, and no other pass is out
abbrev pub IsLone : View → Type 0
IsLone v = (v.number ≡ 0) × IsAlone v

-- ---- the passes that were joined

abbrev pub is_joined : ℕ → Ended → Bool
is_joined n [] = false
is_joined n (x ∷ xs) = n == x.0 || is_joined n xs

-- each was given to a pass that was split off, and was joined once
abbrev pub are_joined : ℕ → Ended → Bool
are_joined made [] = true
are_joined made (x ∷ xs) = (nat_lt 0 x.0 && nat_lt x.0 made) && (not (is_joined x.0 xs) && are_joined made xs)

-- what the root knows of the other passes: which numbers there are, and all that the passes did that were joined
pub record KnowsOthers (v : View) (h : List Entry) : Type 0 where
  pub given : AllByRecursion (λ e. e.pass < v.root.made) h
  pub whole : AllByRecursion (IsWhole h v.root.made) v.root.ended
  pub joined : are_joined v.root.made v.root.ended ≡ true

-- ---- loads

-- the word was read, and the history so far seen
pub record Looks (v : View) (w : Word) (v' : View) : Type 0 where
  pub same : v' ≡ loaded v w v'.seen
  pub longer : IsPrefix v.seen v'.seen
  pub told : IsPrefix v.told v'.seen
  pub legal : IsLegal v.setup.start v'.seen
  pub mine : v.mine ≡ placed v.number 0 v'.seen
  pub place : length v'.seen ≡ w.place
  pub within : IsWithin v.setup w
  -- what is held is right after the history seen, which leaves a sound state of the machine
  pub machine : IsOfMachine v.setup (after v.setup.start v'.seen)
  pub right : AllByRecursion (IsRight v.setup w (after v.setup.start v'.seen)) v.held
  -- alone, nothing was added
  pub still : IsLone v → v'.seen ≡ v.seen
  pub others : v.number ≡ 0 → KnowsOthers v v'.seen

-- a word that is not the one read before is a later one, and then another pass is out
abbrev pub IsLastOrLater : View → Word → Type 0
IsLastOrLater v w = w ≢ v.last → (v.last.place < w.place) × ¬ IsLone v

-- the word that a number is to the pass
abbrev pub read_by : View → ℕ → Word
read_by v n = unpacked (packing_of v.setup.limits) n

abbrev pub looking : Step Value → Sat → ℕ → Sat → Type 0
looking st m n m' = (m'.1 ≡ m.1) × Looks m.0 (read_by m.0 n) m'.0 × IsLastOrLater m.0 (read_by m.0 n)

-- ---- turns

-- the part had this content after some history, which leaves a sound state of the machine
pub record HasStood (s : Setup) (p : Part) (c : Content) : Type 0 where
  pub history : List Entry
  pub word : Word
  pub machine : IsOfMachine s (after s.start history)
  pub right : Right s word (after s.start history) p c

-- the turn was free, and the value is in hand
pub record Gets (p : Part) (m m' : Sat) : Type 0 where
  pub value : Value
  pub content : Content
  pub content_is : content_of value ≡ some content
  pub fit : IsFit m.0.setup value
  pub view : m'.0 ≡ took m.0 p content
  pub hand : m'.1 ≡ (8 * index_of m.0.setup p, value) ∷ m.1
  pub stood : HasStood m.0.setup p content

-- or another pass has it
pub record Misses (p : Part) (m : Sat) (n : ℕ) (m' : Sat) : Type 0 where
  pub view : m'.0 ≡ missed m.0 p (n - 1)
  pub hand : m'.1 ≡ m.1
  pub small : n - 1 < 2 ^ 32
  pub another : ¬ Holds p m.0.held → (n - 1 ≢ m.0.number) × ¬ IsLone m.0

abbrev pub trying : Part → Step Value → Sat → ℕ → Sat → Type 0
trying p st m n m' = (n ≡ 0 → Gets p m m') × (n ≢ 0 → Misses p m n m')

-- the part taken last is in its slot
abbrev pub released : View → View
released v = record v { held = held_before v.held }

abbrev pub releasing : Step Value → Sat → ℕ → Sat → Type 0
releasing st m n m' = (m'.0 ≡ released m.0) × (m'.1 ≡ rest m.1)

-- ---- commits

abbrev pub no_commit : Commit
no_commit = record { expected = first_word; stamp = 0; call = Save; reply = Saved; change = Keep }

-- the call was made at the place that was read
abbrev pub committed_by : View → Commit → View
committed_by v a = committed v v.seen a (renewal v.setup a v.held)

pub record Commits (v : View) (a : Commit) (v' : View) : Type 0 where
  pub view : v' ≡ committed_by v a
  pub legal : IsLegal v.setup.start v'.seen

-- another call was made before it
pub record Loses (v : View) (a : Commit) (w : Word) (v' : View) : Type 0 where
  pub looks : Looks v w v'
  pub later : a.expected ≡ v.last → (a.expected.place < w.place) × ¬ IsLone v

abbrev pub committing : Commit → Step Value → Sat → ℕ → Sat → Type 0
committing a st m n m' = (m'.1 ≡ m.1) × (n ≡ st.first → Commits m.0 a m'.0) × (n ≢ st.first → Loses m.0 a (read_by m.0 n) m'.0)
