-- The worlds of the program, and the worlds that they stand for.
use Rattle.std.specs.Prelude.{◌≡◌, ◌⊎◌, ℕ, ◌<◌, Bool, true, false, ◌==◌, ◌&&◌, List, [], ◌∷◌, ◌++◌, length, map, replicate, ◌*◌, slice_set, slice_index_or}
use Rattle.std.specs.Prelude as std
use mathlib.Core.Option.{Option, none, some}
use lib.ListN.{get_elem?}
use Rattle.its_types.specs.declared.machine.Part.{Part}
use Rattle.its_plain.specs.Plain.{Plain, conf_of, pend_of}
use Rattle.xlate_cache.specs.Ways.{no_entries}
use Rattle.its_steps.specs.Contents.{Content, Held}
use Rattle.its_steps.specs.Contents as steps
use Rattle.its_steps.specs.Good.{AreWide}
use Rattle.its_steps.specs.Parts.{Setup, Stands, index_of}
use Rattle.its_steps.specs.Steps.{Core, Moves}
use Rattle.its_steps.specs.World.{View, CacheView, spent, word_after, entry_of, committed}
use Rattle.its_steps.specs.declared.commit.Commit.{Commit}
use Rattle.its_steps.specs.declared.event.Kind.{Kind}
use Rattle.its_steps.specs.declared.standing.Standing.{Standing}
use Rattle.its_steps.specs.declared.standing.Standing.TheVariants.{Pass, Note, Spent}
use Rattle.its_player.specs.Contents.{content_of}
use Rattle.its_player.specs.declared.cache.Cache.{Cache}
use Rattle.its_player.specs.declared.cache.Looked.{Looked}
use Rattle.its_player.specs.declared.content.Content.{Content as Value}
use Rattle.its_player.specs.declared.content.Content.TheVariants.{Maps, Mem, Shard, Conf, Pend}
use Rattle.its_player.specs.declared.shared.Shared.{Shared}
use Rattle.its_player.specs.declared.view.View.{View as Known}

abbrev pub setup_of : Shared → Setup
setup_of w = record { start = w.start; limits = w.limits; shards = w.shards }

abbrev pub looked_as : Looked → steps.Looked
looked_as l = record { its = l.its; number = l.number; ways = l.ways }

abbrev pub cache_as : Cache → CacheView
cache_as c = record { looked = looked_as c.looked; early = looked_as c.early; early_word = c.early_word }

-- what is known, with the machine that it is known of
abbrev pub known : Setup → Known → View
known s v = record {
  setup = s;
  standing = v.standing;
  number = v.number;
  seen = v.seen.items;
  told = v.told.items;
  mine = v.mine;
  last = v.last;
  held = v.held.items;
  cache = cache_as v.cache;
  tries = record { won = v.tries.won.items; lost = v.tries.lost; met = v.tries.met };
  commit = record { base = v.commit.base; change = v.commit.change };
  root = record { made = v.root.made; ended = v.root.ended.items };
}

-- of one that is spent nothing is known
abbrev pub unless_spent : Standing → View → View
unless_spent Pass v = v
unless_spent Note v = v
unless_spent Spent v = spent

abbrev pub view_of : Setup → Known → View
view_of s v = unless_spent v.standing (known s v)

abbrev pub slot_as : std.Option Value → Option Content
slot_as std.None = none
slot_as (std.Some c) = some (content_of c)

abbrev pub core_of : Shared → Core
core_of w = record {
  setup = setup_of w;
  history = w.history.items;
  world = record { word = w.word; turns = w.turns.items; slots = map slot_as w.slots.items; views = map (view_of (setup_of w)) w.views.items };
  notes = w.notes.items;
}

-- ---- indexes of parts

-- the index at which a part has its turn and its slot
pub record IsIndex (w : Shared) (p : Part) (i : ℕ) : Type 0 where
  pub stands : Stands (setup_of w) p
  pub is : i ≡ index_of (setup_of w) p
  pub turn : i < length w.turns.items
  pub slot : i < length w.slots.items

-- there is one turn and one slot for each part
abbrev pub IsWide : Shared → Type 0
IsWide w = AreWide (setup_of w) w.turns.items (core_of w).world.slots

-- ---- passes found

abbrev pub is_standing : Standing → Bool
is_standing Pass = true
is_standing Note = false
is_standing Spent = false

abbrev pub is_standing_note : Standing → Bool
is_standing_note Pass = false
is_standing_note Note = true
is_standing_note Spent = false

-- the pass of a number
abbrev pub is_pass : ℕ → Known → Bool
is_pass number v = is_standing v.standing && v.number == number

-- a pass is at the index
abbrev pub IsPassAt : Shared → ℕ → Type 0
IsPassAt w at = (x : Known) → x ≡ slice_index_or w.views.items at x → x.standing ≡ Pass

-- ---- moves

-- this is what is left of c, or it can't be and c stays as it is
abbrev pub IsDone : (Core → Type 0) → Core → Core → Type 0
IsDone P c after = P after ⊎ (((d : Core) → ¬ P d) × (after ≡ c))

-- what holds of what the pass at an index knows
abbrev pub AtPass : Core → ℕ → (View → Type 0) → Type 0
AtPass c i P = (v : View) → get_elem? c.world.views i ≡ some v → v.standing ≡ Pass → P v

-- the pass at an index does a step of this kind, or isn't allowed it
abbrev pub IsMove : Core → ℕ → Kind → Core → Type 0
IsMove c i kind after = AtPass c i (λ v. IsDone (Moves c i v kind) c after)

-- what a commit makes of a world
abbrev pub made : Core → ℕ → View → Commit → List Held → Core
made c i v a owed = record c {
  history = c.history ++ entry_of v a ∷ [];
  world = record c.world { word = word_after a; views = slice_set c.world.views i (committed v c.history a owed) };
}

-- ---- the first slots

abbrev pub home_slots : Plain → ℕ → List (std.Option Value)
home_slots u shards =
    map (λ t. std.Some (Maps t)) u.translators
    ++ (std.Some (Mem (record { memory = u.memory; track = u.track }))
    ∷ (replicate (length u.translators * shards) (std.Some (Shard no_entries))
    ++ (map (λ r. std.Some (Conf (conf_of r))) u.redistributors ++ map (λ r. std.Some (Pend (pend_of r))) u.redistributors)))
