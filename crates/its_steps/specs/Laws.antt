-- Each kind of step leads from a good world to a good world.
use Rattle.std.specs.Prelude.{◌≡◌, ◌≢◌, ◌⊎◌, ℕ, suc, ◌<◌, ◌≤◌, ◌^◌, List, [], ◌∷◌, ◌++◌, slice_set}
use Rattle.std.specs.List.{AllByRecursion}
use mathlib.Core.Option.{some, none}
use lib.ListN.{get_elem?}
use Rattle.its_types.specs.declared.machine.Part.{Part}
use Rattle.its_plain.specs.Sound.{IsSound}
use Rattle.its_plain.specs.declared.call.Entry.{Entry}
use Rattle.its_steps.specs.Contents.{Content, Held}
use Rattle.its_steps.specs.Good.{Holds, turn_of, IsEnded, AreDistinct, IsWhole, Good}
use Rattle.its_steps.specs.MayCall.{MayCall}
use Rattle.its_steps.specs.MayCommit.{MayCommit}
use Rattle.its_steps.specs.Parts.{Setup, Stands, index_of}
use Rattle.its_steps.specs.Renewal.{renewal}
use Rattle.its_steps.specs.World.{View, World, first_world, loaded, missed, got, took, kept, out, word_after, entry_of, committed, has_split, split_off}
use Rattle.its_steps.specs.World.{note_of, has_joined, has_met, spent}
use Rattle.its_steps.specs.declared.commit.Commit.{Commit}
use Rattle.its_steps.specs.declared.standing.Standing.TheVariants.{Pass, Note}

-- before any step
abbrev pub FirstIsGood : Type 0
FirstIsGood = (s : Setup) → IsSound s.start → Good s [] (first_world s)

-- from each good world, at each pass
abbrev pub AtPass : (Setup → List Entry → World → ℕ → View → Type 0) → Type 0
AtPass F = (s : Setup) (h : List Entry) (w : World) → Good s h w → (i : ℕ) (v : View) → get_elem? w.views i ≡ some v → v.standing ≡ Pass → F s h w i v

-- at the root
abbrev pub AtRoot : (Setup → List Entry → World → ℕ → View → Type 0) → Type 0
AtRoot F = AtPass (λ s h w i v. v.number ≡ 0 → F s h w i v)

-- ---- the word

abbrev pub LoadKeeps : Type 0
LoadKeeps = AtPass (λ s h w i v. Good s h record w { views = slice_set w.views i (loaded v w.word h) })

-- a commit that found the word as expected; one that found another is a load
abbrev pub CommitKeeps : Type 0
CommitKeeps = AtPass (λ s h w i v. (a : Commit) (owed : List Held) → w.word ≡ a.expected → MayCommit s a v.held owed
    → Good s (h ++ entry_of v a ∷ []) record w { word = word_after a; views = slice_set w.views i (committed v h a owed) })

-- a pass that holds the parts of a call may commit it
abbrev pub HoldersMayCommit : Type 0
HoldersMayCommit = (s : Setup) (a : Commit) (held : List Held) → MayCall s a held → MayCommit s a held (renewal s a held)

-- ---- parts

abbrev pub TryKeeps : Type 0
TryKeeps = AtPass (λ s h w i v. (p : Part) (c : Content) → Stands s p → turn_of s w.turns p ≡ 0 → get_elem? w.slots (index_of s p) ≡ some (some c)
    → Good s h record w { turns = slice_set w.turns (index_of s p) (suc v.number); views = slice_set w.views i (got v p c) })

-- the turn was another's
abbrev pub MissKeeps : Type 0
MissKeeps = AtPass (λ s h w i v. (p : Part) (found : ℕ) → Good s h record w { views = slice_set w.views i (missed v p found) })

abbrev pub TakeOutKeeps : Type 0
TakeOutKeeps = AtPass (λ s h w i v. (p : Part) (c : Content) (before behind : List Held) → v.held ≡ before ++ kept p c ∷ behind
    → Good s h record w { slots = slice_set w.slots (index_of s p) none; views = slice_set w.views i (record v { held = before ++ out p c ∷ behind }) })

abbrev pub PutHomeKeeps : Type 0
PutHomeKeeps = AtPass (λ s h w i v. (p : Part) (c : Content) (before behind : List Held) → v.held ≡ before ++ out p c ∷ behind
    → Good s h record w { slots = slice_set w.slots (index_of s p) (some c); views = slice_set w.views i (record v { held = before ++ kept p c ∷ behind }) })

abbrev pub ReleaseKeeps : Type 0
ReleaseKeeps = AtPass (λ s h w i v. (p : Part) (c : Content) (before behind : List Held) → v.held ≡ before ++ kept p c ∷ behind
    → Good s h record w { turns = slice_set w.turns (index_of s p) 0; views = slice_set w.views i (record v { held = before ++ behind }) })

-- ---- parts, two steps in one: nobody sees a part between its turn and its slot

-- the turn is got and the value taken out
abbrev pub TakeKeeps : Type 0
TakeKeeps = AtPass (λ s h w i v. (p : Part) (c : Content) → Stands s p → turn_of s w.turns p ≡ 0 → get_elem? w.slots (index_of s p) ≡ some (some c)
    → Good s h record w {
      turns = slice_set w.turns (index_of s p) (suc v.number);
      slots = slice_set w.slots (index_of s p) none;
      views = slice_set w.views i (took v p c);
    })

-- the value is put back into its slot, and the turn given back
abbrev pub GiveKeeps : Type 0
GiveKeeps = AtPass (λ s h w i v. (p : Part) (c : Content) (before behind : List Held) → v.held ≡ before ++ out p c ∷ behind
    → Good s h record w {
      turns = slice_set w.turns (index_of s p) 0;
      slots = slice_set w.slots (index_of s p) (some c);
      views = slice_set w.views i (record v { held = before ++ behind });
    })

-- the order in which parts are held is of no account
abbrev pub BringKeeps : Type 0
BringKeeps = AtPass (λ s h w i v. (x : Held) (before behind : List Held) → v.held ≡ before ++ x ∷ behind
    → Good s h record w { views = slice_set w.views i (record v { held = x ∷ (before ++ behind) }) })

-- ---- passes and notes

-- there is a number for each pass
abbrev pub SplitKeeps : Type 0
SplitKeeps = AtRoot (λ s h w i v. v.root.made < 2 ^ 32 → Good s h record w { views = slice_set w.views i (has_split v) ++ split_off v ∷ [] })

-- a pass that holds nothing is joined
abbrev pub JoinKeeps : Type 0
JoinKeeps = AtRoot (λ s h w i v. (j : ℕ) (u : View) → j ≢ i → get_elem? w.views j ≡ some u → u.standing ≡ Pass → u.held ≡ []
    → Good s h record w { views = slice_set (slice_set w.views i (has_joined v u)) j spent })

abbrev pub NoteKeeps : Type 0
NoteKeeps = AtPass (λ s h w i v. Good s h record w { views = w.views ++ note_of v ∷ [] })

abbrev pub MeetKeeps : Type 0
MeetKeeps = AtPass (λ s h w i v. (j : ℕ) (note : View) → get_elem? w.views j ≡ some note → note.standing ≡ Note
    → Good s h record w { views = slice_set (slice_set w.views i (has_met v note)) j spent })

-- ---- what a good world tells

-- a pass that has read the word as it is has seen the whole history
abbrev pub ReaderHasSeen : Type 0
ReaderHasSeen = AtPass (λ s h w i v. v.last.place ≡ w.word.place → (v.last ≡ w.word) × (v.seen ≡ h))

-- every pass has a number below 2^32
abbrev pub NumbersAreBounded : Type 0
NumbersAreBounded = AtPass (λ s h w i v. v.number < 2 ^ 32)

-- so has the one whose turn a part is; and a pass holds the parts that have its number
abbrev pub TurnsAreHeld : Type 0
TurnsAreHeld = AtPass (λ s h w i v. (p : Part) (n : ℕ) → Stands s p → turn_of s w.turns p ≡ suc n → (n < 2 ^ 32)
    × (((n ≡ v.number) × Holds p v.held) ⊎ (n ≢ v.number)))

-- no pass but the root is out
abbrev pub IsAlone : View → Type 0
IsAlone v = (n : ℕ) → 0 < n → n < v.root.made → IsEnded n v.root.ended

-- The root knows which entries there can be, and all that the passes did that were joined, each of them once, and not the root.
-- Alone it has read the word, has seen the whole history, and no other pass has a turn
pub record RootKnows (s : Setup) (h : List Entry) (w : World) (v : View) : Type 0 where
  pub bound : v.root.made ≤ 2 ^ 32
  pub given : AllByRecursion (λ e. e.pass < v.root.made) h
  pub whole : AllByRecursion (IsWhole h v.root.made) v.root.ended
  pub distinct : AreDistinct v.root.ended
  pub out : ¬ IsEnded 0 v.root.ended
  pub last : IsAlone v → v.last ≡ w.word
  pub seen : IsAlone v → v.seen ≡ h
  pub turns : IsAlone v → (p : Part) (n : ℕ) → Stands s p → turn_of s w.turns p ≡ suc n → n ≡ 0

abbrev pub RootKnowsAll : Type 0
RootKnowsAll = AtRoot (λ s h w i v. RootKnows s h w v)
