-- How the word, the turns and the slots stand in the table.
use Rattle.std.specs.Prelude.{◌≡◌, ℕ, zero, suc, ◌*◌, ◌/◌, ◌%◌, ◌^◌, ◌<◌, ◌≤◌, nat_lt, if◌then◌else◌, List, [], ◌∷◌, map, slice_index_or}
use mathlib.Core.Option.{Option, none}
use Rattle.its_types.specs.declared.machine.Limits.{Limits}
use Rattle.its_types.specs.declared.machine.Word.{Word}
use Rattle.its_steps.specs.Contents.{Content}
use Rattle.its_turns.specs.Contents.{shelved}
use Rattle.its_turns.specs.declared.value.Value.{Value}
use Rattle.its_turns.specs.declared.word.Packing.{Packing}
use Rattle.its_turns.specs.declared.word.Packing.TheVariants.{Place40, Place56}

-- the stamp has 24 bits and the place 40, or 8 and 56
abbrev pub unpacked : Packing → ℕ → Word
unpacked Place40 n = record { stamp = n / 2 ^ 40; place = n % 2 ^ 40 }
unpacked Place56 n = record { stamp = n / 2 ^ 56; place = n % 2 ^ 56 }

-- a machine's places have 40 bits, where its last one fits in them
abbrev pub packing_of : Limits → Packing
packing_of l = if nat_lt l.place_last (2 ^ 40) then Place40 else Place56

-- stamp and place fit in their bits
abbrev pub IsRoomFor : Packing → Word → Type 0
IsRoomFor Place40 w = (w.stamp < 2 ^ 24) × (w.place < 2 ^ 40)
IsRoomFor Place56 w = (w.stamp < 2 ^ 8) × (w.place < 2 ^ 56)

-- the last place has more than 40 bits
abbrev pub IsLong : Limits → Type 0
IsLong l = 2 ^ 40 ≤ l.place_last

-- The last stamp and the last place of so many translators have room beside each other: a place of more than 40 bits leaves 8 to the stamp, which is that of
-- the one translator
pub record HaveRoom (l : Limits) (translators : ℕ) : Type 0 where
  pub stamps : l.stamp_last < 2 ^ 24
  pub places : l.place_last < 2 ^ 56
  pub few_stamps : IsLong l → l.stamp_last < 2 ^ 8
  pub alone : IsLong l → translators ≡ 1

-- n items, each `gap` places after the one before, the first at place k * gap
abbrev pub spaced : {A : Type 0} → A → ℕ → List A → ℕ → ℕ → List A
spaced filler gap xs k zero = []
spaced filler gap xs k (suc n) = slice_index_or xs (gap * k) filler ∷ spaced filler gap xs (suc k) n

-- each turn stands 16 words from the next, after the word, and each slot 8 from the next: no two share a line of the processor's cache
abbrev pub turns_in : List ℕ → ℕ → List ℕ
turns_in words parts = spaced 0 16 words 1 parts

abbrev pub slots_in : List (Option Value) → ℕ → List (Option Content)
slots_in homes parts = map shelved (spaced none 8 homes 0 parts)
