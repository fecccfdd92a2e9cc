-- A machine and its passes, as clauses speak of them.
use Rattle.std.specs.Prelude.{◌≡◌, ℕ, ◌<◌, ◌≤◌}
use Rattle.its_types.specs.declared.machine.Word.{Word}
use Rattle.its_steps.specs.Parts.{Setup, translator_count, stamp_of}
use Rattle.its_steps.specs.World.{View}
use Rattle.its_turns.specs.Rule.{setup_of}
use Rattle.its_turns.specs.declared.machine.Machine.{Machine}
use Rattle.its_turns.specs.declared.machine.Note.{Note}
use Rattle.its_turns.specs.declared.machine.Pass.{Pass}

-- what no call changes
abbrev pub setup : Machine → Setup
setup m = setup_of m.table.shared.key

-- what the pass knows
abbrev pub view : Pass → View
view p = p.seat.me.0

-- the pass is one of this machine
abbrev pub IsOf : Machine → Pass → Type 0
IsOf m p = (p.seat.table_id ≡ m.table.shared.table_id) × ((view p).setup ≡ setup m)

-- each translator's stamp in the word is at most the last one
abbrev pub AreWithin : Setup → Word → Type 0
AreWithin s w = (its : ℕ) → its < translator_count s → stamp_of s w its ≤ s.limits.stamp_last

-- what the note knows
abbrev pub known : Note → View
known n = n.seat.me.0

abbrev pub IsNoteOf : Machine → Note → Type 0
IsNoteOf m n = n.seat.table_id ≡ m.table.shared.table_id
