-- A world: the word that commits exchange, the turns and slots of the parts, and what each pass knows. Each step of a pass changes its view as said here.
use Rattle.std.specs.Prelude.{None, ℕ, ◌+◌, ◌*◌, Bool, true, false, ◌==◌, ◌&&◌, nat_lt, if◌then◌else◌, List, [], ◌∷◌, ◌++◌, map, replicate}
use mathlib.Core.Option.{Option, some}
use Rattle.its_types.specs.declared.machine.Part.{Part}
use Rattle.its_types.specs.declared.machine.Part.TheVariants as part
use Rattle.its_types.specs.declared.machine.Word.{Word}
use Rattle.its_types.specs.declared.machine.Profile.TheVariants.{One}
use Rattle.its_plain.specs.Plain.{conf_of, pend_of}
use Rattle.its_plain.specs.declared.call.Call.{Call}
use Rattle.its_plain.specs.declared.call.Entry.{Entry}
use Rattle.its_plain.specs.declared.call.Reply.{Reply}
use Rattle.xlate_cache.specs.Ways.{no_entries}
use Rattle.its_steps.specs.Contents.{Content, Maps, Mem, Shard, Conf, Pend, Held, Looked}
use Rattle.its_steps.specs.Parts.{Setup, translator_count, part_count}
use Rattle.its_steps.specs.declared.change.ShardChange.{ShardChange}
use Rattle.its_steps.specs.declared.change.ShardChange.TheVariants.{Keep}
use Rattle.its_steps.specs.declared.commit.Commit.{Commit}
use Rattle.its_steps.specs.declared.standing.Standing.{Standing}
use Rattle.its_steps.specs.declared.standing.Standing.TheVariants.{Pass, Note, Spent}

-- ---- what a pass knows

-- of the cache
pub record CacheView : Type 0 where
  -- the shard that it held last, with the ways that it owes or owed
  pub looked : Looked
  -- that shard as it was when the pass last got some maps
  pub early : Looked
  -- the word that it had read by then
  pub early_word : Word

-- of its tries
pub record Tries : Type 0 where
  -- the parts whose turns it got, the last one first
  pub won : List Part
  -- how many tries it lost
  pub lost : ℕ
  -- of the last one that it lost, the part and the number found
  pub met : Part × ℕ

-- of its last commit
pub record LastCommit : Type 0 where
  -- the word that it found
  pub base : Word
  -- what it did to the shards
  pub change : ShardChange

-- the calls of a pass, each with its place
abbrev pub Placed : Type 0
Placed = List (ℕ × Entry)

-- of all numbers, which the root knows
pub record RootView : Type 0 where
  -- how many were given, the root's own among them
  pub made : ℕ
  -- those that were joined, the last one first, each with its calls
  pub ended : List (ℕ × Placed)

pub record View : Type 0 where
  -- the machine that it is of
  pub setup : Setup
  -- whether it is a pass's, a note's, or spent
  pub standing : Standing
  -- the pass's number
  pub number : ℕ
  -- the history as the pass, or the one that made the note, last saw it
  pub seen : List Entry
  -- of a pass that joined another or met a note, what the one that had seen less had seen
  pub told : List Entry
  -- its own calls
  pub mine : Placed
  -- the word that it read last
  pub last : Word
  -- the parts that it holds, the last one got first
  pub held : List Held
  -- what it knows of the cache
  pub cache : CacheView
  -- which turns it got, and which not
  pub tries : Tries
  -- its last commit
  pub commit : LastCommit
  -- of the root, what it knows of all numbers
  pub root : RootView

pub record World : Type 0 where
  pub word : Word
  -- of each part by its number: 0 where it is free, else one more than the number of the pass that has it
  pub turns : List ℕ
  -- a part that is out of its slot leaves nothing there
  pub slots : List (Option Content)
  pub views : List View

-- ---- the first world

abbrev pub first_word : Word
first_word = record { stamp = 0; place = 0 }

abbrev pub no_look : Looked
no_look = record { its = 0; number = 0; ways = [] }

abbrev pub no_tries : Tries
no_tries = record { won = []; lost = 0; met = (part.Mem, 0) }

-- a pass with nothing yet of its own
abbrev pub fresh : Setup → ℕ → ℕ → List Entry → Word → View
fresh s number made seen last = record {
  setup = s;
  standing = Pass;
  number = number;
  seen = seen;
  told = [];
  mine = [];
  last = last;
  held = [];
  cache = record { looked = no_look; early = no_look; early_word = last };
  tries = no_tries;
  commit = record { base = last; change = Keep };
  root = record { made = made; ended = [] };
}

abbrev pub first_view : Setup → View
first_view s = fresh s 0 1 [] first_word

-- each part in its slot as the first state has it, and every shard empty
abbrev pub first_slots : Setup → List (Option Content)
first_slots s =
    map (λ t. some (Maps t)) s.start.translators
    ++ (some (Mem s.start.memory s.start.track) ∷ (replicate (translator_count s * s.shards) (some (Shard no_entries))
    ++ (map (λ r. some (Conf (conf_of r))) s.start.redistributors ++ map (λ r. some (Pend (pend_of r))) s.start.redistributors)))

abbrev pub first_world : Setup → World
first_world s = record { word = first_word; turns = replicate (part_count s) 0; slots = first_slots s; views = first_view s ∷ [] }

-- ---- a load of the word

abbrev pub loaded : View → Word → List Entry → View
loaded v word h = record v { last = word; seen = h }

-- ---- a try of a part's turn

-- another pass has it
abbrev pub lost_to : Tries → Part → ℕ → Tries
lost_to t p found = record t { lost = t.lost + 1; met = (p, found) }

abbrev pub missed : View → Part → ℕ → View
missed v p found = record v { tries = lost_to v.tries p found }

abbrev pub looked_of : Part → Content → Looked → Looked
looked_of (part.Shard its n) (Shard ways) before = record { its = its; number = n; ways = ways }
looked_of p c before = before

-- what is known of the cache once a part was got that contains this, where the word read last is given
abbrev pub cache_got : Part → Content → Word → CacheView → CacheView
cache_got (part.Maps its) c last v = record v { early = v.looked; early_word = last }
cache_got p c last v = record v { looked = looked_of p c v.looked }

abbrev pub kept : Part → Content → Held
kept p c = record { part = p; owed = c; out = false }

abbrev pub out : Part → Content → Held
out p c = record { part = p; owed = c; out = true }

-- it was free; what stands in the slot is owed
abbrev pub got : View → Part → Content → View
got v p c = record v { held = kept p c ∷ v.held; cache = cache_got p c v.last v.cache; tries = record v.tries { won = p ∷ v.tries.won } }

-- and out of its slot at once
abbrev pub took : View → Part → Content → View
took v p c = record (got v p c) { held = out p c ∷ v.held }

-- ---- a commit

-- the next word, with this stamp
abbrev pub next_word : Word → ℕ → Word
next_word expected stamp = record { stamp = stamp; place = expected.place + 1 }

-- the word that a commit leaves
abbrev pub word_after : Commit → Word
word_after a = next_word a.expected a.stamp

abbrev pub entry : ℕ → Call → Reply → Entry
entry number call reply = record { pass = number; call = call; reply = reply }

-- the entry of the history that a commit of this pass makes
abbrev pub entry_of : View → Commit → Entry
entry_of v a = entry v.number a.call a.reply

abbrev pub is_looked : Looked → Part → Bool
is_looked o (part.Shard its n) = its == o.its && n == o.number
is_looked o p = false

-- the shard with its ways as they are owed, where it is held
abbrev pub looked_in : List Held → Looked → Looked
looked_in [] o = o
looked_in (x ∷ xs) o = if is_looked o x.part then looked_of x.part x.owed o else looked_in xs o

-- after a commit that found the word as expected, where h was the history, with other contents owed from then on
abbrev pub committed : View → List Entry → Commit → List Held → View
committed v h a owed = record v {
  seen = h ++ entry_of v a ∷ [];
  mine = v.mine ++ (a.expected.place, entry_of v a) ∷ [];
  last = word_after a;
  held = owed;
  cache = record v.cache { looked = looked_in owed v.cache.looked };
  commit = record { base = a.expected; change = a.change };
}

-- ---- splits and joins: the root loads the word before it splits, and after it joins

-- a pass of the next number, which has seen what the root has
abbrev pub split_off : View → View
split_off v = fresh v.setup v.root.made 0 v.seen v.last

abbrev pub has_split : View → View
has_split v = record v { root = record v.root { made = v.root.made + 1 } }

-- a note has what its maker has seen, and nothing else
abbrev pub note_of : View → View
note_of v = record (fresh v.setup 0 0 v.seen first_word) { standing = Note }

abbrev pub later : View → View → View
later v w = if nat_lt v.last.place w.last.place then w else v

abbrev pub earlier : View → View → View
earlier v w = if nat_lt v.last.place w.last.place then v else w

-- the root after a join with the pass w
abbrev pub has_joined : View → View → View
has_joined v w = record v {
  seen = (later v w).seen;
  told = (earlier v w).seen;
  last = (later v w).last;
  root = record v.root { ended = (w.number, w.mine) ∷ v.root.ended };
}

-- a pass after it met a note
abbrev pub has_met : View → View → View
has_met v note = record v { told = note.seen }

abbrev no_setup : Setup
no_setup = record {
  start = record {
    layout = record {
      shape = record { vcpus = 0; dev_bits = 0; lpi_bits = 0; profile = One; linux = false };
      gicr = false;
      described = [];
      track = false;
    };
    translators = [];
    redistributors = [];
    memory = [];
    track = None;
  };
  limits = record { stamp_last = 0; place_last = 0 };
  shards = 0;
}

-- what is left of a pass that was joined or a note that was met
abbrev pub spent : View
spent = record (fresh no_setup 0 0 [] first_word) { standing = Spent }
