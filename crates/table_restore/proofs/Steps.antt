-- The steps of the walks: what a place has goes into the maps, and the rest of the walk is as it was.
use Rattle.std.proofs.Common.{◌≡◌, ℕ, ◌+◌, true, false, cond, List, Option, Some, None, Ok, Err, refl, sym, subst, ap, ◌∙◌}
use Rattle.std.proofs.Common.{add-one, is_some}
use Rattle.std.specs.Prelude.{IsSome, ◌||◌}
use Rattle.std.specs.Option.{option_and_then, option_map}
use Rattle.its_types.specs.Bits.{bit_of}
use Rattle.guest_windows.specs.Windows.{Window, number_at}
use Rattle.gits_regs.specs.Registers.{Registers, collection_places}
use Rattle.baser_place.specs.Places.{level1_address, page_address, level1_word, level1_of}
use Rattle.baser_place.specs.declared.entry.Level1.{Level1}
use Rattle.baser_place.specs.declared.entry.Level1.TheVariants as level1
use Rattle.its_types.specs.Maps.{Maps, collection_of}
use Rattle.its_types.specs.declared.ids.Icid.{Icid}
use Rattle.its_types.specs.declared.ids.Vcpu.{Vcpu}
use Rattle.its_types.specs.declared.machine.Shape.{Shape}
use Rattle.table_entries.specs.Fields.{CollectionFields}
use Rattle.table_entries.specs.Words.{unpacked_collection}
use Rattle.its_types.specs.declared.translation.Event.{Event}
use Rattle.its_plain.specs.EventTables.{Itt, event_check, event_in}
use Rattle.its_plain.specs.CollectionTables.{collection_address, collection_entry, collection_leads, next_collection, collection_check, is_of, stands_before}
use Rattle.its_plain.specs.DeviceTables.{DevicePlace, at_level1, at_entry, following, word_leads, next_device}
use Rattle.its_plain.specs.declared.fault.RestoreFault.{RestoreFault}
use Rattle.standing_states.specs.Walked.{after_all, after}
use Rattle.standing_states.specs.Found.{one_event, look_event, one_collection, look_collection, put_collection, AreThoseBefore, IsPlace, rank, reach}
use Rattle.standing_states.specs.Found.{look_device}
use Rattle.standing_states.specs.Found.{devices_from, put_found}
use Rattle.standing_states.proofs.Walks.{goes_on, ends_here, goes_wrong, after-err}
use Rattle.standing_states.proofs.EventsWalked.{within_is, then_ok, then_err}
use Rattle.standing_states.proofs.CollectionsWalked.{next_is, one_more}
use Rattle.standing_states.proofs.DevicesWalked.{IsSmall, devices_rise}
use Rattle.table_restore.specs.Outcome.{fields_of, LookedDevice, Took, place_of}
use Rattle.table_restore.specs.declared.error.TableError.{TableError}
use Rattle.table_restore.specs.declared.error.TableError.TheVariants as errors
use Rattle.table_restore.specs.declared.place.DevicePlace as code

-- ---- events

pub event_put : (memory : List Window) (n : ℕ) (t : Itt) (i : ℕ) (o : Option Event) (put : Maps → ℕ × Event → Maps) (s u : Maps)
    → event_check memory n t i ≡ Ok tt → event_in memory t i ≡ o → u ≡ after_all put s (one_event i o)
    → after put s (look_event memory n t i) ≡ Ok u
event_put memory n t i o put s u ok is got =
    ap (after put s) (then_ok (event_check memory n t i) (one_event i (event_in memory t i)) ok)
    ∙ ap (λ (e : Option Event). Ok (after_all put s (one_event i e))) is ∙ ap Ok (sym got)

pub event_wrong : (memory : List Window) (n : ℕ) (t : Itt) (i : ℕ) (f : RestoreFault) → event_check memory n t i ≡ Err f → look_event memory n t i ≡ Err f
event_wrong memory n t i f e = then_err (event_check memory n t i) (one_event i (event_in memory t i)) f e

-- ---- collections

pub collection_wrong : (s : Shape) (memory : List Window) (r : Registers) (i : ℕ) (f : RestoreFault) → collection_check s memory r i ≡ Err f
    → look_collection s memory r i ≡ Err f
collection_wrong s memory r i f e = then_err (collection_check s memory r i) (one_collection (collection_entry s memory r i)) f e

pub collection_put : (s : Shape) (memory : List Window) (r : Registers) (i : ℕ) (o : Option (Icid × Vcpu)) (m n : Maps) → collection_check s memory r i ≡ Ok tt
    → collection_entry s memory r i ≡ option_map fields_of o → n ≡ after_all put_collection m (one_collection (option_map fields_of o))
    → after put_collection m (look_collection s memory r i) ≡ Ok n
collection_put s memory r i o m n ok is got =
    ap (after put_collection m) (then_ok (collection_check s memory r i) (one_collection (collection_entry s memory r i)) ok)
    ∙ ap (λ (e : Option CollectionFields). Ok (after_all put_collection m (one_collection e))) is ∙ ap Ok (sym got)

up_by_one : (r : Registers) (i to : ℕ) (o : Option CollectionFields) → collection_leads r i o ≡ Some to → to ≡ i + 1
up_by_one r i to None e = absurd cc
up_by_one r i to (Some c) e = (within_is (collection_places r) (i + 1) to e).0

-- a place leads to the one after it
pub leads_up : (memory : List Window) (r : Registers) (i to : ℕ) → next_collection memory r i ≡ Some to → to ≡ i + 1
leads_up memory r i to e = up_by_one r i to (option_and_then unpacked_collection (number_at memory (collection_address r i))) (sym (next_is memory r i) ∙ e)

-- with what the place has, the maps have those of one place more
pub before_next : (s : Shape) (memory : List Window) (r : Registers) (i to : ℕ) (o : Option (Icid × Vcpu)) (m n : Maps) → AreThoseBefore s memory r m i
    → collection_entry s memory r i ≡ option_map fields_of o → n ≡ after_all put_collection m (one_collection (option_map fields_of o)) → to ≡ i + 1
    → AreThoseBefore s memory r n to
before_next s memory r i to None m n before is got at = λ icid.
    ap (λ (u : Maps). is_some (collection_of u icid)) got
    ∙ before icid
    ∙ ap (λ (e : Option CollectionFields). is_of icid e || stands_before s memory r i icid) (sym is)
    ∙ ap (λ k. stands_before s memory r k icid) (sym (at ∙ add-one i))
before_next s memory r i to (Some c) m n before is got at =
    subst (AreThoseBefore s memory r n) (sym at) (one_more s memory r m n i (fields_of c) c.1 before is got)

-- ---- a level-1 entry, as baser_place reads it

abbrev pub LeadsAs : List Window → Registers → ℕ → Level1 → Type 0
LeadsAs memory r k (level1.Outside address) = (number_at memory (level1_address r k) ≡ None) × (address.0 ≡ level1_address r k)
LeadsAs memory r k level1.Empty = IsSome (number_at memory (level1_address r k)) × (next_device memory r (at_level1 k) ≡ following r k)
LeadsAs memory r k (level1.Page address) = IsSome (number_at memory (level1_address r k)) × (next_device memory r (at_level1 k) ≡ Some (at_entry k address.0 0))

some_is : {A : Type 0} (o : Option A) (x : A) → o ≡ Some x → IsSome o
some_is o x e = subst IsSome (sym e) refl

pub level1_read : (memory : List Window) (r : Registers) (k : ℕ) → LeadsAs memory r k (level1_of r memory k)
unfolding level1_of
level1_read memory r k =
    elim (number_at memory (level1_address r k)) as (λ o. number_at memory (level1_address r k) ≡ o → LeadsAs memory r k (level1_word (level1_address r k) o)) [
      | None ↦ λ e. (e, refl)
      | Some word ↦ λ e.
          let leads_to = ap (option_and_then (word_leads r (at_level1 k))) e in
          elim (bit_of word 63) as (λ b. bit_of word 63 ≡ b → LeadsAs memory r k (cond b (level1.Page (record { 0 = page_address word })) level1.Empty)) [
            | true ↦ λ is. (
              some_is (number_at memory (level1_address r k)) word e,
              leads_to
                  ∙ ap (λ b. cond b (Some (at_entry k (page_address word) 0)) (following r k)) is,
            )
            | false ↦ λ is. (
              some_is (number_at memory (level1_address r k)) word e,
              leads_to
                  ∙ ap (λ b. cond b (Some (at_entry k (page_address word) 0)) (following r k)) is,
            )
          ] refl
    ] refl

pub level1_is : (memory : List Window) (r : Registers) (k : ℕ) (e f : Level1) → e ≡ level1_of r memory k → e ≡ f → LeadsAs memory r k f
level1_is memory r k e f a b = subst (LeadsAs memory r k) (sym a ∙ b) (level1_read memory r k)

-- ---- devices

module _ (memory : List Window) (n : ℕ) (r : Registers) (s : IsSmall r) where
  pub device_wrong : (old seen now new : Maps) (p q : DevicePlace) (error : TableError) → IsPlace r p → after put_found now (devices_from memory n r p)
      ≡ after put_found old (devices_from memory n r q) → LookedDevice memory n r p now seen (Err error)
      → Took put_found old new (Err error) (devices_from memory n r q)
  device_wrong old seen now new p q (errors.Fault f) g so is =
      after-err put_found old (devices_from memory n r q) f
      (goes_wrong put_found (look_device memory n r) (next_device memory r) rank (reach r) (IsPlace r) (devices_rise memory r s) now p f
      (after put_found old (devices_from memory n r q)) g so is)
  device_wrong old seen now new p q errors.NoMemory g so is = tt

  pub device_ends : (old now new : Maps) (p q : DevicePlace) (o : Option code.DevicePlace) → IsPlace r p → after put_found now (devices_from memory n r p)
      ≡ after put_found old (devices_from memory n r q) → LookedDevice memory n r p now new (Ok o) → o ≡ None
      → after put_found old (devices_from memory n r q) ≡ Ok new
  device_ends old now new p q o g so is none =
      ends_here put_found (look_device memory n r) (next_device memory r) rank (reach r) (IsPlace r) (devices_rise memory r s) now new p
      (next_device memory r p) (after put_found old (devices_from memory n r q)) g so is.0 refl (is.1 ∙ ap (option_map place_of) none)

  pub device_leads_to : (now new : Maps) (p : DevicePlace) (o : Option code.DevicePlace) (to : code.DevicePlace) → LookedDevice memory n r p now new (Ok o)
      → o ≡ Some to → next_device memory r p ≡ Some (place_of to)
  device_leads_to now new p o to is leads_on = is.1 ∙ ap (option_map place_of) leads_on

  pub device_on : (old now new : Maps) (p q : DevicePlace) (o : Option code.DevicePlace) (to : code.DevicePlace) → IsPlace r p
      → after put_found now (devices_from memory n r p) ≡ after put_found old (devices_from memory n r q) → LookedDevice memory n r p now new (Ok o)
      → o ≡ Some to
      → after put_found new (devices_from memory n r (place_of to)) ≡ after put_found old (devices_from memory n r q)
  device_on old now new p q o to g so is leads_on =
      goes_on put_found (look_device memory n r) (next_device memory r) rank (reach r) (IsPlace r) (devices_rise memory r s) now new p (place_of to)
      (next_device memory r p) (after put_found old (devices_from memory n r q)) g so is.0 refl (device_leads_to now new p o to is leads_on)
