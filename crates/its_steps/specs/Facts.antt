-- Facts that a reader of worlds needs, of the machine, its parts and its stamps.
use Rattle.std.specs.Prelude.{◌≡◌, ◌≢◌, ℕ, ◌<◌, ◌≤◌, List, length, Option, Some, None, slice_index_or}
use Rattle.std.specs.List.{AllByRecursion}
use Rattle.its_types.specs.declared.ids.DeviceId.{DeviceId}
use Rattle.its_types.specs.declared.ids.EventId.{EventId}
use Rattle.its_types.specs.declared.ids.Target.{Target}
use Rattle.its_types.specs.declared.machine.Part.{Part}
use Rattle.its_types.specs.declared.machine.Word.{Word}
use Rattle.its_plain.specs.History.{after}
use Rattle.its_plain.specs.Sound.{IsSound}
use Rattle.its_plain.specs.declared.call.Entry.{Entry}
use Rattle.xlate_cache.specs.Ways.{entry, found}
use Rattle.xlate_cache.specs.declared.entry.Entry.{Entry as Translation}
use Rattle.its_steps.specs.Contents.{Content, Held}
use Rattle.its_steps.specs.Good.{Apart}
use Rattle.its_steps.specs.MayCall.{Owes}
use Rattle.its_steps.specs.Parts.{Setup, HasVcpus, HasStamps, Stands, Has, Suits, IsOfMachine, index_of, part_count, translator_count, stamp_at, stamp_of}
use Rattle.its_steps.specs.Parts.{stamp_with}
use Rattle.its_steps.specs.Renewal.{assembled}
use Rattle.its_steps.specs.World.{first_slots}

-- every history leaves a state of the machine
abbrev pub HistoriesStayInMachine : Type 0
HistoriesStayInMachine = (s : Setup) → IsSound s.start → (h : List Entry) → IsOfMachine s (after s.start h)

-- the first state with what is held put in has what is held
abbrev pub AssembledHas : Type 0
AssembledHas = (s : Setup) → HasVcpus s → (held : List Held) → Apart held → AllByRecursion (λ x. Stands s x.part) held → (p : Part) (c : Content) → Suits p c
    → Owes p c held → Has (assembled s held) p c

-- each part has an index of its own below their count
abbrev pub IndexesAreBelow : Type 0
IndexesAreBelow = (s : Setup) (p : Part) → Stands s p → index_of s p < part_count s

abbrev pub IndexesAreApart : Type 0
IndexesAreApart = (s : Setup) (p q : Part) → Stands s p → Stands s q → index_of s p ≡ index_of s q → p ≡ q

-- the first slots are one for each part
abbrev pub FirstSlotsAreAll : Type 0
FirstSlotsAreAll = (s : Setup) → IsSound s.start → length (first_slots s) ≡ part_count s

-- what is found in a shard stands in one of its ways
abbrev pub FoundStandsThere : Type 0
FoundStandsThere = (dev : DeviceId) (ev : EventId) (stamp : ℕ) (t : Target) (ways : List (Option Translation)) → found ways dev.0 ev.0 stamp ≡ Some t → (i : ℕ)
    × (slice_index_or ways i None ≡ Some (entry dev ev stamp t))

-- the stamp of a machine's one translator is the word's
abbrev pub OneHasAllBits : Type 0
OneHasAllBits = (s : Setup) → translator_count s ≡ 1 → ((word : Word) (its : ℕ) → stamp_of s word its ≡ word.stamp)
    × ((stamp its new : ℕ) → stamp_with (translator_count s) stamp its new ≡ new)

-- where a translator gets another stamp, it has that, and each other has its own
abbrev pub StampsAreApart : Type 0
StampsAreApart = (s : Setup) (stamp its new : ℕ) → HasStamps s → its < translator_count s → new ≤ s.limits.stamp_last → let n : ℕ = translator_count s in
    (stamp_at n (stamp_with n stamp its new) its ≡ new) × ((j : ℕ) → j < n → j ≢ its → stamp_at n (stamp_with n stamp its new) j ≡ stamp_at n stamp j)
