-- The eight kinds of step, as events of a world: when each is allowed, and what it leaves.
use Rattle.std.specs.Prelude.{◌≡◌, ◌≢◌, ◌⊎◌, ℕ, suc, ◌<◌, ◌^◌, List, [], ◌∷◌, ◌++◌, length, slice_set}
use mathlib.Core.Option.{none, some}
use lib.ListN.{get_elem?}
use Rattle.its_types.specs.declared.machine.Part.{Part}
use Rattle.its_plain.specs.declared.call.Entry.{Entry}
use Rattle.its_steps.specs.Contents.{Content, Held}
use Rattle.its_steps.specs.Good.{Holds, turn_of, Good}
use Rattle.its_steps.specs.MayCall.{MayCall}
use Rattle.its_steps.specs.Parts.{Setup, Stands, index_of}
use Rattle.its_steps.specs.Renewal.{renewal}
use Rattle.its_steps.specs.World.{View, World, first_world, loaded, missed, got, kept, out, word_after, entry_of, committed, has_split, split_off, note_of}
use Rattle.its_steps.specs.World.{has_joined, has_met, spent}
use Rattle.its_steps.specs.declared.commit.Commit.{Commit}
use Rattle.its_steps.specs.declared.event.Event.{Event}
use Rattle.its_steps.specs.declared.event.Kind.{Kind}
use Rattle.its_steps.specs.declared.event.Kind.TheVariants as kind
use Rattle.its_steps.specs.declared.standing.Standing.TheVariants.{Pass, Note}

-- a world, with the machine that it is of and its history
pub record Core : Type 0 where
  pub setup : Setup
  -- the longest that a pass has seen
  pub history : List Entry
  pub world : World
  -- at which index each note was put, the first one first
  pub notes : List ℕ

-- the world before any step
abbrev pub first_core : Setup → Core
first_core s = record { setup = s; history = []; world = first_world s; notes = [] }

-- between any two steps
abbrev pub IsGoodCore : Core → Type 0
IsGoodCore c = Good c.setup c.history c.world

-- the pass of a number is at an index
pub record IsAt (c : Core) (number i : ℕ) (v : View) : Type 0 where
  pub at : get_elem? c.world.views i ≡ some v
  pub passes : v.standing ≡ Pass
  pub number_is : v.number ≡ number

-- the n-th note is at an index, and was not met yet
pub record IsNoteAt (c : Core) (n i : ℕ) (note : View) : Type 0 where
  pub made : get_elem? c.notes n ≡ some i
  pub at : get_elem? c.world.views i ≡ some note
  pub is_note : note.standing ≡ Note

abbrev pub set_views : Core → List View → Core
set_views c views = record c { world = record c.world { views = views } }

abbrev pub set_view : Core → ℕ → View → Core
set_view c i v = set_views c (slice_set c.world.views i v)

-- ---- tries

-- the turn is free, and what stands in the slot is owed
pub record Gets (c : Core) (i : ℕ) (v : View) (p : Part) (after : Core) : Type 0 where
  pub free : turn_of c.setup c.world.turns p ≡ 0
  pub content : Content
  pub slot : get_elem? c.world.slots (index_of c.setup p) ≡ some (some content)
  pub leaves : after ≡ record c {
    world = record c.world {
      turns = slice_set c.world.turns (index_of c.setup p) (suc v.number);
      views = slice_set c.world.views i (got v p content);
    };
  }

-- another pass has it
pub record Misses (c : Core) (i : ℕ) (v : View) (p : Part) (after : Core) : Type 0 where
  pub found : ℕ
  pub taken : turn_of c.setup c.world.turns p ≡ suc found
  pub leaves : after ≡ set_view c i (missed v p found)

pub record Tries (c : Core) (i : ℕ) (v : View) (p : Part) (after : Core) : Type 0 where
  pub stands : Stands c.setup p
  pub lacks : ¬ Holds p v.held
  pub does : Gets c i v p after ⊎ Misses c i v p after

-- ---- parts held

pub record TakesOut (c : Core) (i : ℕ) (v : View) (p : Part) (after : Core) : Type 0 where
  pub content : Content
  pub before : List Held
  pub behind : List Held
  pub held : v.held ≡ before ++ kept p content ∷ behind
  pub leaves : after ≡ record c {
    world = record c.world {
      slots = slice_set c.world.slots (index_of c.setup p) none;
      views = slice_set c.world.views i (record v { held = before ++ out p content ∷ behind });
    };
  }

pub record PutsHome (c : Core) (i : ℕ) (v : View) (p : Part) (after : Core) : Type 0 where
  pub content : Content
  pub before : List Held
  pub behind : List Held
  pub held : v.held ≡ before ++ out p content ∷ behind
  pub leaves :
      after ≡ record c {
        world = record c.world {
          slots = slice_set c.world.slots (index_of c.setup p) (some content);
          views = slice_set c.world.views i (record v { held = before ++ kept p content ∷ behind });
        };
      }

pub record Releases (c : Core) (i : ℕ) (v : View) (p : Part) (after : Core) : Type 0 where
  pub content : Content
  pub before : List Held
  pub behind : List Held
  pub held : v.held ≡ before ++ kept p content ∷ behind
  pub leaves : after ≡ record c {
    world = record c.world {
      turns = slice_set c.world.turns (index_of c.setup p) 0;
      views = slice_set c.world.views i (record v { held = before ++ behind });
    };
  }

-- ---- the word

abbrev pub loads : Core → ℕ → View → Core
loads c i v = set_view c i (loaded v c.world.word c.history)

-- what a commit leaves that found the word as expected
abbrev pub commits : Core → ℕ → View → Commit → Core
commits c i v a = record c {
  history = c.history ++ entry_of v a ∷ [];
  world = record c.world { word = word_after a; views = slice_set c.world.views i (committed v c.history a (renewal c.setup a v.held)) };
}

-- one that found another word is a load
pub record Commits (c : Core) (i : ℕ) (v : View) (a : Commit) (after : Core) : Type 0 where
  pub may : MayCall c.setup a v.held
  pub found : c.world.word ≡ a.expected → after ≡ commits c i v a
  pub raced : c.world.word ≢ a.expected → after ≡ loads c i v

-- ---- passes and notes

-- the root loads the word, and the new pass has what it has then
abbrev pub splits : Core → ℕ → View → Core
splits c i v =
    let w : View = loaded v c.world.word c.history in
    set_views c (slice_set c.world.views i (has_split w) ++ split_off w ∷ [])

pub record Splits (c : Core) (i : ℕ) (v : View) (after : Core) : Type 0 where
  pub root : v.number ≡ 0
  pub room : v.root.made < 2 ^ 32
  pub leaves : after ≡ splits c i v

abbrev pub notes : Core → View → Core
notes c v = record (set_views c (c.world.views ++ note_of v ∷ [])) { notes = c.notes ++ length c.world.views ∷ [] }

-- the root takes back a pass that holds nothing, and loads the word
pub record Joins (c : Core) (i : ℕ) (v : View) (number : ℕ) (after : Core) : Type 0 where
  pub root : v.number ≡ 0
  pub other : number ≢ 0
  pub index : ℕ
  pub view : View
  pub is_at : IsAt c number index view
  pub bare : view.held ≡ []
  pub leaves : after ≡ set_views c (slice_set (slice_set c.world.views i (loaded (has_joined v view) c.world.word c.history)) index spent)

-- a pass has then seen what the note has, and loads the word
pub record Meets (c : Core) (i : ℕ) (v : View) (n : ℕ) (after : Core) : Type 0 where
  pub index : ℕ
  pub note : View
  pub is_at : IsNoteAt c n index note
  pub leaves : after ≡ set_views c (slice_set (slice_set c.world.views i (loaded (has_met v note) c.world.word c.history)) index spent)

-- ---- all kinds

-- the pass at index i, which knows this, is allowed a step of the kind, and this is what it leaves
abbrev pub Moves : Core → ℕ → View → Kind → Core → Type 0
Moves c i v kind.Load after = after ≡ loads c i v
Moves c i v (kind.Try p) after = Tries c i v p after
Moves c i v (kind.TakeOut p) after = TakesOut c i v p after
Moves c i v (kind.Commit a) after = Commits c i v a after
Moves c i v (kind.PutHome p) after = PutsHome c i v p after
Moves c i v (kind.Release p) after = Releases c i v p after
Moves c i v kind.Split after = Splits c i v after
Moves c i v kind.Note after = after ≡ notes c v
Moves c i v (kind.Join number) after = Joins c i v number after
Moves c i v (kind.Meet n) after = Meets c i v n after

pub record Does (c : Core) (e : Event) (after : Core) : Type 0 where
  pub index : ℕ
  pub view : View
  pub is_at : IsAt c e.pass index view
  pub moves : Moves c index view e.kind after

-- an event that isn't allowed leaves the world as it is
abbrev pub IsStep : Core → Event → Core → Type 0
IsStep c e after = Does c e after ⊎ (((d : Core) → ¬ Does c e d) × (after ≡ c))

abbrev pub IsRun : Core → List Event → Core → Type 0
IsRun c [] after = after ≡ c
IsRun c (e ∷ es) after = (d : Core) × IsStep c e d × IsRun d es after

-- ---- what is claimed

-- every event keeps the good world, allowed or not
abbrev pub StepsKeep : Type 0
StepsKeep = (c : Core) (e : Event) (after : Core) → IsGoodCore c → IsStep c e after → IsGoodCore after

-- so does every schedule
abbrev pub RunsKeep : Type 0
RunsKeep = (c : Core) (es : List Event) (after : Core) → IsGoodCore c → IsRun c es after → IsGoodCore after
