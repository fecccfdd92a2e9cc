-- What a restore reads in the collection table (IHI 0069, section 5.2.5; KVM document arm-vgic-its, "ITS Table ABI REV0"):
-- the places from the first on, up to the first entry that isn't valid.
use Rattle.std.specs.Prelude.{◌≡◌, ℕ, zero, suc, ◌+◌, Bool, true, false, not, ◌&&◌, ◌||◌, ◌==◌, nat_lt, if◌then◌else◌, List, Option, Some, None, Result, Ok}
use Rattle.std.specs.Prelude.{Err}
use Rattle.std.specs.Option.{option_and_then, ok_or}
use Rattle.guest_windows.specs.Windows.{Window, number_at}
use Rattle.gits_regs.specs.Registers.{Registers, is_valid, table_base, collection_places}
use Rattle.baser_place.specs.Places.{entry_address}
use Rattle.table_entries.specs.Fields.{CollectionFields}
use Rattle.table_entries.specs.Words.{unpacked_collection}
use Rattle.its_types.specs.declared.ids.Vcpu.{Vcpu}
use Rattle.its_types.specs.declared.machine.Shape.{Shape}
use Rattle.its_plain.specs.Walks.{Reached, IsFirstOffence, within, ensure, ◌>>=◌}
use Rattle.its_plain.specs.declared.fault.RestoreFault.{RestoreFault}
use Rattle.its_plain.specs.declared.fault.RestoreFault.TheVariants.{OutsideTable, BadCollection, BadTarget, DoubleCollection}

abbrev pub collection_address : Registers → ℕ → ℕ
collection_address r i = entry_address (table_base r.baser1) i

-- ---- what a place has, and where it leads

-- the entry is of a collection that was named and never mapped, as KVM saves it
abbrev pub is_unmapped : CollectionFields → Bool
is_unmapped c = c.vcpu_number == 0xFFFFFFFF

-- a valid entry that counts: where the shape says so, one of a collection that was never mapped is passed over
abbrev pub counted : Shape → Option CollectionFields → Option CollectionFields
counted s None = None
counted s (Some c) = if s.linux && is_unmapped c then None else Some c

-- its entry, where that is valid and counts
abbrev pub collection_entry : Shape → List Window → Registers → ℕ → Option CollectionFields
collection_entry s memory r i = option_and_then (λ word. counted s (unpacked_collection word)) (number_at memory (collection_address r i))

abbrev pub collection_leads : Registers → ℕ → Option CollectionFields → Option ℕ
collection_leads r i None = None
collection_leads r i (Some c) = within (collection_places r) (i + 1)

abbrev pub next_collection : List Window → Registers → ℕ → Option ℕ
next_collection memory r i = option_and_then (λ word. collection_leads r i (unpacked_collection word)) (number_at memory (collection_address r i))

-- ---- faults

abbrev pub is_of : ℕ → Option CollectionFields → Bool
is_of icid None = false
is_of icid (Some c) = c.icid == icid

-- one of the first n places has an entry of the collection
abbrev pub stands_before : Shape → List Window → Registers → ℕ → ℕ → Bool
stands_before s memory r zero icid = false
stands_before s memory r (suc n) icid = is_of icid (collection_entry s memory r n) || stands_before s memory r n icid

-- of an entry that counts, in their order
abbrev pub collection_entry_check : Shape → List Window → Registers → ℕ → Option CollectionFields → Result (Unit {0}) RestoreFault
collection_entry_check s memory r i None = Ok tt
collection_entry_check s memory r i (Some c) = do
  _ ← ensure (nat_lt c.icid (collection_places r)) (BadCollection (record { 0 = c.icid }))
  _ ← ensure (nat_lt c.vcpu_number s.vcpus) (BadTarget (record { 0 = c.icid }) c.vcpu_number)
  ensure (not (stands_before s memory r i c.icid)) (DoubleCollection (record { 0 = c.icid }))

-- Ok where a place has none, else the first
abbrev pub collection_check : Shape → List Window → Registers → ℕ → Result (Unit {0}) RestoreFault
collection_check s memory r i = do
  word ← ok_or (number_at memory (collection_address r i)) (OutsideTable (record { 0 = collection_address r i }))
  collection_entry_check s memory r i (counted s (unpacked_collection word))

abbrev pub CollectionReached : List Window → Registers → ℕ → Type 0
CollectionReached memory r i = Reached (next_collection memory r) 0 i

-- a table that isn't valid isn't read
abbrev pub AreCollectionsClear : Shape → List Window → Registers → Type 0
AreCollectionsClear s memory r = is_valid r.baser1 ≡ true → (i : ℕ) → CollectionReached memory r i → collection_check s memory r i ≡ Ok tt

abbrev pub CollectionsOffend : Shape → List Window → Registers → RestoreFault → Type 0
CollectionsOffend s memory r f =
    (is_valid r.baser1 ≡ true)
    × IsFirstOffence (λ i. collection_check s memory r i ≡ Ok tt) (λ i g. collection_check s memory r i ≡ Err g) (next_collection memory r) 0 f

-- ---- content

-- a place that is reached has the collection
abbrev pub HasCollection : Shape → List Window → Registers → ℕ → Vcpu → Type 0
HasCollection s memory r icid vcpu =
    (is_valid r.baser1 ≡ true) × (i : ℕ) × CollectionReached memory r i × (collection_entry s memory r i ≡ Some (record { vcpu_number = vcpu.0; icid = icid }))
