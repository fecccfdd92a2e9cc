-- The rule of the table: words, slots and views show a good world.
use Rattle.std.specs.Prelude.{suc, ◌≡◌, ℕ, ◌*◌, ◌<◌, ◌≤◌, List, length, slice_index}
use mathlib.Core.Option.{none, some}
use lib.ListN.{get_elem?}
use Rattle.atomic_table.specs.Table.{State}
use Rattle.its_plain.specs.declared.call.Entry.{Entry}
use Rattle.its_steps.specs.Good.{Good}
use Rattle.its_steps.specs.Parts.{Setup, part_count}
use Rattle.its_steps.specs.World.{View, World}
use Rattle.its_turns.specs.Contents.{IsFit}
use Rattle.its_turns.specs.Opening.{setup_from}
use Rattle.its_turns.specs.Words.{unpacked, packing_of, turns_in, slots_in}
use Rattle.its_turns.specs.declared.law.Origin.{Origin}
use Rattle.its_turns.specs.declared.value.Value.{Value}

-- what the description and the parts given make
abbrev pub setup_of : Origin → Setup
setup_of o = setup_from o.desc.value o.parts.value

-- the world that a table shows
abbrev pub world_of : Setup → State Value View → World
world_of s t = record {
  word = unpacked (packing_of s.limits) (slice_index t.words 0);
  turns = turns_in t.words (part_count s);
  slots = slots_in t.homes (part_count s);
  views = t.views;
}

pub record Kept (s : Setup) (t : State Value View) : Type 0 where
  pub history : List Entry
  pub good : Good s history (world_of s t)
  -- each part has its word and its slot
  pub wide : 16 * part_count s < length t.words
  pub deep : 8 * part_count s ≤ length t.homes
  -- a part that a pass has the turn of is out
  pub out : (k n : ℕ) → slice_index (world_of s t).turns k ≡ suc n → get_elem? t.homes (8 * k) ≡ some none
  -- each value in its slot is one of this machine
  pub fit : (k : ℕ) (x : Value) → get_elem? t.homes k ≡ some (some x) → IsFit s x
