-- What a save relies on of the parts that it is given.
use Rattle.std.specs.Prelude.{ℕ, ◌+◌, ◌*◌, List, [], ◌∷◌, ◌++◌, length, Option, Some, None, IfSome}
use Rattle.std.specs.List.{AllByRecursion}
use Rattle.std.specs.FinMap.{entries}
use Rattle.dirty_log.specs.declared.tracked.Tracked.{Tracked}
use Rattle.guest_windows.specs.Windows.{Window}
use Rattle.its_types.specs.Maps.{Maps, events_at}
use Rattle.its_types.specs.declared.machine.Shape.{Shape}
use Rattle.its_plain.specs.Plain.{Translator}
use Rattle.gits_regs.specs.Registers.{Registers}
use Rattle.its_plain.specs.Sound.{IsShape, IsSound}
use Rattle.its_plain.specs.Saved.{Words}
use Rattle.its_plain.specs.declared.area.Area.{Area}
use Rattle.its_plain.specs.Regions.{queue_area}
use Rattle.owned_parts.specs.Owned.{AreAllInHand, state_of, translators_at}
use Rattle.owned_parts.specs.declared.in_place.TranslatorRef.{TranslatorRef}
use Rattle.owned_parts.specs.declared.in_place.InPlace.{InPlace}
use Rattle.table_save.specs.Areas.{HasLowTable, HaveLowTables, tables_in}
use Rattle.table_save.specs.Pass.{FitsDevice, FitsEvent}
use Rattle.table_save.specs.Tables.{translator_tables}

-- ---- the parts

-- with some second memory, or none, they are those of a sound state
abbrev pub AreOfSound : InPlace → Type 0
AreOfSound p = (track : Option Tracked) × IsSound (state_of p.layout.now (translators_at p.first p.second) p.memory.now track p.redists.now)

-- a translator's entries fit their words, and its tables lie low
pub record FitsTranslator (t : TranslatorRef) : Type 0 where
  pub tables : AllByRecursion HasLowTable (entries t.maps.now.maps.devices)
  pub devices : AllByRecursion FitsDevice (entries t.maps.now.maps.devices)
  pub events : (dev : ℕ) → AllByRecursion FitsEvent (events_at t.maps.now.maps dev)

pub record FitsSave (p : InPlace) : Type 0 where
  pub shape : IsShape p.layout.now.shape
  pub in_hand : AreAllInHand p.layout.now.shape p.redists.now
  pub low : HaveLowTables p.layout.now.shape p.redists.now
  pub first : FitsTranslator p.first
  pub second : IfSome p.second FitsTranslator

-- ---- what the second translator has, if there is one

abbrev pub device_count : TranslatorRef → ℕ
device_count t = length (entries t.maps.now.maps.devices)

abbrev pub second_count : Option TranslatorRef → ℕ
second_count None = 0
second_count (Some t) = device_count t

-- how many devices are mapped
abbrev pub all_count : InPlace → ℕ
all_count p = device_count p.first + second_count p.second

-- how many areas there are at most: those of each of two translators, and two of each virtual processor
abbrev pub area_count : InPlace → ℕ
area_count p = all_count p + 262 + 2 * p.layout.now.shape.vcpus

abbrev pub tables_at : ℕ → List Window → TranslatorRef → List Area
tables_at its memory t = tables_in its memory t.regs.now t.maps.now.maps

abbrev pub second_tables : List Window → Option TranslatorRef → List Area
second_tables memory None = []
second_tables memory (Some t) = tables_at 1 memory t

-- the tables of all translators
abbrev pub tables_of : InPlace → List Area
tables_of p = tables_at 0 p.memory.now p.first ++ second_tables p.memory.now p.second

abbrev pub second_queue : Option TranslatorRef → List Area
second_queue None = []
second_queue (Some t) = queue_area 1 t.regs.now

abbrev pub queues_of : InPlace → List Area
queues_of p = queue_area 0 p.first.regs.now ++ second_queue p.second

abbrev pub words_at : Shape → List Window → TranslatorRef → List Words
words_at s memory t = translator_tables s memory t.regs.now t.maps.now.maps

abbrev pub second_words : Shape → List Window → Option TranslatorRef → List Words
second_words s memory None = []
second_words s memory (Some t) = words_at s memory t

-- one translator
abbrev pub one : Registers → Maps → List Translator
one r m = record { regs = r; maps = m } ∷ []
