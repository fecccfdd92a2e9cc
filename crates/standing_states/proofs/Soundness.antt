-- A state that memory stands for is sound.
use Rattle.std.proofs.Common.{◌≡◌, ℕ, ◌+◌, ◌-◌, ◌*◌, ◌%◌, ◌^◌, ◌<◌, ◌≤◌, Bool, true, false, not, cond, eqb, nat_lt, List, [], ◌∷◌, length, map}
use Rattle.std.proofs.Common.{Option, Some, None, Result, Ok, Err, refl, sym, subst, ap, ◌∙◌, arith, pow_pos}
use Rattle.std.specs.Prelude.{◌||◌, ◌&&◌, is_some, slice_get}
use Rattle.std.specs.Option.{option_and_then, option_map, ok_or}
use Rattle.std.specs.Result.{IsOk, IfOk}
use Rattle.std.specs.List.{AllByRecursion}
use Rattle.std.specs.List.Sorted.{IsStrictlyIncreasing}
use Rattle.std.proofs.lemmas.Bool.{ltb-true, lt-ltb, eq-eqb, and_parts}
use Rattle.std.proofs.lemmas.List.{length-replicate}
use Rattle.std.proofs.lemmas.Nat.{pow-add}
use Rattle.its_types.specs.Bits.{field, bit_of}
use Rattle.its_types.specs.Lpis.{is_pending}
use Rattle.its_types.specs.Maps.{Maps, device_of}
use Rattle.its_types.specs.Ranges.{is_lpi, lpi_count, pending_bytes}
use Rattle.its_types.specs.declared.ids.Vcpu.{Vcpu}
use Rattle.its_types.specs.declared.machine.Shape.{Shape}
use Rattle.its_types.specs.declared.translation.Bases.{Bases}
use Rattle.its_types.specs.declared.translation.Device.{Device}
use Rattle.its_types.specs.declared.translation.Event.{Event}
use Rattle.guest_windows.specs.Windows.{Window, inside, number_at, extent, are_windows}
use Rattle.guest_windows.proofs.Laws.{length-read_at}
use Rattle.gits_regs.specs.Registers as regs
use Rattle.gits_regs.specs.Registers.{Registers, is_indirect, collection_places, restored}
use Rattle.gits_regs.specs.declared.values.RegValues.{RegValues}
use Rattle.gits_regs.proofs.Kept.{restored_keeps}
use Rattle.gicr_regs.specs.Registers.{AreKept}
use Rattle.baser_place.specs.Places.{level1_entries, flat_places, entry_address}
use Rattle.table_entries.specs.Fields.{DeviceFields, EventFields, CollectionFields}
use Rattle.table_entries.specs.Words.{unpacked_device, unpacked_event}
use Rattle.its_plain.specs.Walks.{Path, ensure, ◌>>=◌}
use Rattle.its_plain.specs.EventTables.{Itt, itt_of, event_address, event_entry, event_of_fields, event_check, event_entry_check, next_event, IsIttClear}
use Rattle.its_plain.specs.EventTables.{HasEvent}
use Rattle.its_plain.specs.CollectionTables.{collection_address, AreCollectionsClear, HasCollection}
use Rattle.its_plain.specs.DeviceTables.{DevicePlace, at_level1, at_entry, first_device, flat_size, id_of, device_entry, device_of_fields, device_in}
use Rattle.its_plain.specs.DeviceTables.{AreDevicesClear, HasDevice}
use Rattle.its_plain.specs.Plain.{Plain, Translator, Redistributor}
use Rattle.its_plain.specs.declared.layout.Layout.{Layout}
use Rattle.its_plain.specs.Sound.{IsShape, IsLayout, IsDevice, IsEvent, IsCollection, IsTranslator, HasTables, IsRedistributor, IsSound}
use Rattle.its_plain.specs.Stands.{Stands, IsTranslatorIn, IsTranslatorFrom, AreMapsIn, IsRedistributorIn, AreRedistributorsClear, lacks_tables, is_set}
use Rattle.its_plain.specs.declared.fault.RestoreFault.{RestoreFault}
use Rattle.its_plain.specs.declared.fault.RestoreFault.TheVariants.{OutsideTable}
use Rattle.standing_states.specs.Laws.{AreBasesOf}
use Rattle.standing_states.specs.Found.{IsPlace}
use Rattle.standing_states.proofs.Contents.{entry_of_word}
use Rattle.standing_states.proofs.DevicesWalked.{small, device_starts, page_of_two, page_of_flat}
use Rattle.standing_states.proofs.EventsWalked.{events_rise}
use Rattle.standing_states.proofs.Standing.{good_along}
use Rattle.standing_states.proofs.Masked.{are_masked}
use Rattle.standing_states.proofs.Offences.{exists_at, in_list}
use Rattle.plain_soundness.proofs.First.{reset_translator}
use Rattle.plain_soundness.proofs.Migrated.{tracks_of, tracked_of}
use Rattle.dirty_log.specs.Copies.{IsTracked}

-- ---- fields of entries

record LowFields (e : DeviceFields) : Type 0 where
  least : 1 ≤ e.bits
  whole : e.itt % 256 ≡ 0
  low : e.itt < 2 ^ 52

low_fields : (word : ℕ) (e : DeviceFields) → unpacked_device word ≡ Some e → LowFields e
low_fields word e is =
    elim (bit_of word 63) as (λ b. cond b (Some (record { next = field word 49 14; itt = field word 5 44 * 2 ^ 8; bits = field word 0 5 + 1 })) None ≡ Some e
    → LowFields e) [
      | true ↦ λ s.
          let f : DeviceFields = record { next = field word 49 14; itt = field word 5 44 * 2 ^ 8; bits = field word 0 5 + 1 } in
          let same : f ≡ e = cc in
          subst LowFields same (record { least = omega arith; whole = omega arith; low = omega arith })
      | false ↦ λ s. absurd cc
    ] is

low_entry : (o : Option ℕ) (e : DeviceFields) → option_and_then unpacked_device o ≡ Some e → LowFields e
low_entry None e is = absurd cc
low_entry (Some word) e is = low_fields word e is

low_icid : (word : ℕ) (e : EventFields) → unpacked_event word ≡ Some e → e.icid < 65536
low_icid word e is =
    elim (eqb (field word 16 32) 0) as (λ b. cond b None (Some (record { next = field word 48 16; intid = field word 16 32; icid = field word 0 16 })) ≡ Some e
    → e.icid < 65536) [
      | true ↦ λ s. absurd cc
      | false ↦ λ s.
          let f : EventFields = record { next = field word 48 16; intid = field word 16 32; icid = field word 0 16 } in
          let same : f ≡ e = cc in
          subst (λ (g : EventFields). g.icid < 65536) same (omega arith)
    ] is

low_event : (o : Option ℕ) (e : EventFields) → option_and_then unpacked_event o ≡ Some e → e.icid < 65536
low_event None e is = absurd cc
low_event (Some word) e is = low_icid word e is

with_fields : {A B : Type 0} (f : A → B) (o : Option A) (d : B) → option_map f o ≡ Some d → (e : A) × (o ≡ Some e) × (f e ≡ d)
with_fields f None d is = absurd cc
with_fields f (Some e) d is = (e, refl, cc)

-- ---- devices

all_ids : (r : Registers) → 16 ≤ r.dev_bits → 8192 * level1_entries r.dev_bits ≡ 2 ^ r.dev_bits
all_ids r least = let split : r.dev_bits ≡ 13 + (r.dev_bits - 13) = omega arith in sym (ap (λ k. 2 ^ k) split ∙ pow-add 2 13 (r.dev_bits - 13))

flat_ids : (r : Registers) → (flat_size r ≤ 8192 * level1_entries r.dev_bits) × (flat_size r ≤ flat_places r)
unfolding flat_size
flat_ids r = (omega arith, omega arith)

module _ (memory : List Window) (s : Shape) (r : Registers) (least : 16 ≤ r.dev_bits) (most : r.dev_bits ≤ 20) where
  id_low : (p : DevicePlace) (d : Device) → IsPlace r p → device_in memory p ≡ Some d → (id_of p < 2 ^ r.dev_bits)
      × (is_indirect r.baser0 ≡ false → id_of p < flat_places r)
  id_low (at_level1 k) d g is = absurd cc
  id_low (at_entry k page i) d g is =
      let all = all_ids r least in let f = flat_ids r in
      elim (is_indirect r.baser0) as (λ b. is_indirect r.baser0 ≡ b → (8192 * k + i < 2 ^ r.dev_bits) × (b ≡ false → 8192 * k + i < flat_places r)) [
        | true ↦ λ two. let l = page_of_two r two in let lt = g.2 two in let low = g.1 in (omega arith, λ no_way. absurd cc)
        | false ↦ λ flat. let l = page_of_flat r flat in let z = g.3 flat in let low = g.1 in let a = f.0 in let b = f.1 in (omega arith, λ _. omega arith)
      ] refl

  low_device : (p : DevicePlace) (e : DeviceFields) → device_entry memory p ≡ Some e → LowFields e
  low_device (at_level1 k) e is = absurd cc
  low_device (at_entry k page i) e is = low_entry (number_at memory (entry_address page i)) e is

  is_device : AreDevicesClear memory s.lpi_bits r → (dev : ℕ) (d : Device) → HasDevice memory r dev d → IsDevice r dev d
  is_device clear dev d h =
      let e = with_fields device_of_fields (device_entry memory h.1) d h.4 in
      let low = low_device h.1 e.0 e.1 in
      let good = good_along memory r (small r least most) (first_device r) h.2.0 h.1 (device_starts r (small r least most)) h.2.1 in
      let ids = id_low h.1 d good h.4 in
      let fits : e.0.bits ≤ 16 = (clear h.0 h.1 h.2).size e.0 e.1 in
      record {
        table = h.0;
        in_range = lt-ltb dev (2 ^ r.dev_bits) (subst (λ (k : ℕ). k < 2 ^ r.dev_bits) h.3 ids.0);
        in_table = λ flat. subst (λ (k : ℕ). k < flat_places r) h.3 (ids.1 flat);
        least_bits = subst (λ (x : Device). 1 ≤ x.bits) e.2 low.least;
        most_bits = subst (λ (x : Device). x.bits ≤ 16) e.2 fits;
        itt_whole = subst (λ (x : Device). x.itt.0 % 256 ≡ 0) e.2 low.whole;
        itt_low = subst (λ (x : Device). x.itt.0 < 2 ^ 52) e.2 low.low;
      }

  -- ---- events

  event_along : (t : Itt) (i : ℕ) (rs : List ℕ) (j : ℕ) → i < t.places → Path (next_event memory t) i rs j → j < t.places
  event_along t i [] j lt a = subst (λ (k : ℕ). k < t.places) a lt
  event_along t i (k ∷ rs) j lt a = event_along t k rs j ((events_rise memory t).good i k lt a.0) a.1

  first_of : (a : Bool) (f : RestoreFault) (rest : Result (Unit {0}) RestoreFault) → (ensure a f >>= λ _. rest) ≡ Ok tt → a ≡ true
  first_of true f rest e = refl
  first_of false f rest e = absurd cc

  entry_checked : (t : Itt) (ev : ℕ) (e : EventFields) (f : RestoreFault) (o : Option ℕ)
      → (ok_or o f >>= λ w. event_entry_check s.lpi_bits t ev (unpacked_event w)) ≡ Ok tt → option_and_then unpacked_event o ≡ Some e
      → event_entry_check s.lpi_bits t ev (Some e) ≡ Ok tt
  entry_checked t ev e f None h is = absurd cc
  entry_checked t ev e f (Some w) h is = ap (event_entry_check s.lpi_bits t ev) (sym is) ∙ h

  event_lpi : (t : Itt) (ev : ℕ) (e : EventFields) → event_check memory s.lpi_bits t ev ≡ Ok tt → event_entry memory t ev ≡ Some e
      → is_lpi s.lpi_bits e.intid ≡ true
  event_lpi t ev e ok is = first_of (is_lpi s.lpi_bits e.intid) _ _ (entry_checked t ev e (OutsideTable (record { 0 = event_address t ev }))
      (number_at memory (event_address t ev)) ok is)

  itt_clear : AreDevicesClear memory s.lpi_bits r → (dev : ℕ) (d : Device) → HasDevice memory r dev d → IsIttClear memory s.lpi_bits (itt_of dev d)
  itt_clear clear dev d h =
      let e = with_fields device_of_fields (device_entry memory h.1) d h.4 in
      subst (λ (p : ℕ × Device). IsIttClear memory s.lpi_bits (itt_of p.0 p.1)) (λ i. (h.3 i, e.2 i)) ((clear h.0 h.1 h.2).itt e.0 e.1)

  is_event : (m : Maps) → AreDevicesClear memory s.lpi_bits r → (dev ev : ℕ) (e : Event) (d : Device) → HasDevice memory r dev d
      → HasEvent memory (itt_of dev d) ev e → device_of m dev ≡ Some d → IsEvent s m dev ev e
  is_event m clear dev ev e d h k mapped =
      let f = with_fields event_of_fields (event_entry memory (itt_of dev d) ev) e k.1 in
      let lpi = event_lpi (itt_of dev d) ev f.0 (itt_clear clear dev d h ev k.0) f.1 in
      let low : f.0.icid < 65536 = low_event (number_at memory (event_address (itt_of dev d) ev)) f.0 f.1 in
      record {
        device = d;
        device_is = mapped;
        in_bits = event_along (itt_of dev d) 0 k.0.0 ev (pow_pos d.bits) k.0.1;
        lpi = subst (λ (x : Event). is_lpi s.lpi_bits x.intid.0 ≡ true) f.2 lpi;
        icid = subst (λ (x : Event). x.icid.0 < 65536) f.2 low;
      }

  -- ---- collections

  second_of : (a b : Bool) (f g : RestoreFault) (rest : Result (Unit {0}) RestoreFault) → (ensure a f >>= λ _. ensure b g >>= λ _. rest) ≡ Ok tt → (a ≡ true)
      × (b ≡ true)
  second_of true true f g rest e = (refl, refl)
  second_of true false f g rest e = absurd cc
  second_of false b f g rest e = absurd cc

  is_collection : AreCollectionsClear s memory r → (icid : ℕ) (v : Vcpu) → HasCollection s memory r icid v → IsCollection s r icid v
  is_collection clear icid v h =
      let c : CollectionFields = record { vcpu_number = v.0; icid = icid } in
      let ok = entry_of_word s memory r h.1 c (OutsideTable (record { 0 = collection_address r h.1 })) (number_at memory (collection_address r h.1))
      (clear h.0 h.1 h.2) h.3 in
      let two = second_of (nat_lt icid (collection_places r)) (nat_lt v.0 s.vcpus) _ _ _ ok in
      record { table = h.0; in_table = ltb-true icid (collection_places r) two.0; target = ltb-true v.0 s.vcpus two.1 }

  is_translator : (m : Maps) → regs.IsSound r → r.dev_bits ≡ s.dev_bits → AreMapsIn s memory r m → IsTranslator s (record { regs = r; maps = m })
  is_translator m sound bits a = record {
    regs = sound;
    dev_bits = bits;
    devices = λ dev d e. is_device a.devices_clear dev d ((a.devices dev d).0 e);
    events = λ dev ev e is. let h = (a.events dev ev e).0 is in is_event m a.devices_clear dev ev e h.0 h.1 h.2 ((a.devices dev h.0).1 h.1);
    collections = λ icid v e. is_collection a.collections_clear icid v ((a.collections icid v).0 e);
  }

if_ok : {A B : Type 0} (P : A → Type 0) (x : Result A B) → IsOk x → IfOk x P → (a : A) × (x ≡ Ok a) × P a
if_ok P (Ok a) is h = (a, refl, h)
if_ok P (Err b) is h = absurd cc

translator_sound : (memory : List Window) (s : Shape) (values : RegValues) (t : Translator) → IsShape s → IsTranslatorIn s memory values t → IsTranslator s t
translator_sound memory s values t shape a =
    let w = if_ok regs.IsSound (restored values s.dev_bits) a.allowed (restored_keeps values s.dev_bits shape.least_dev_bits shape.most_dev_bits) in
    let same : w.0 ≡ t.regs = are_masked values s.dev_bits w.0 w.1 ∙ sym a.regs in
    let bits : t.regs.dev_bits ≡ s.dev_bits = ap (λ (r : Registers). r.dev_bits) a.regs in
    let least = shape.least_dev_bits in let most = shape.most_dev_bits in
    is_translator memory s t.regs (omega arith) (omega arith) t.maps (subst regs.IsSound same w.2) bits a.maps

-- ---- redistributors

all_of : (P : ℕ → Type 0) (xs : List ℕ) → ((y : ℕ) → is_pending y xs ≡ true → P y) → AllByRecursion P xs
all_of P [] h = tt
all_of P (x ∷ xs) h = (h x (ap (λ t. t || is_pending x xs) (eq-eqb x x refl)), all_of P xs (λ y e. h y (ap (λ t. eqb x y || t) e ∙ or_true (eqb x y))))
  where
    or_true : (b : Bool) → (b || true) ≡ true
    or_true true = refl
    or_true false = refl

none_rises : (xs : List ℕ) → xs ≡ [] → IsStrictlyIncreasing xs
none_rises xs e = subst IsStrictlyIncreasing (sym e) (λ k lt. absurd (omega arith))

none_in_it : (P : ℕ → Type 0) (xs : List ℕ) → xs ≡ [] → AllByRecursion P xs
none_in_it P xs e = subst (AllByRecursion P) (sym e) tt

has_tables : (s : Shape) (memory : List Window) (b : Bases) → lacks_tables s memory b ≡ false → b.on ≡ true → HasTables s memory b
has_tables s memory b lacks on =
    let w = both (inside memory b.prop.table.0 (lpi_count s.lpi_bits)) (inside memory b.pend.table.0 (pending_bytes s.lpi_bits))
    (sym (ap (λ t. t && not (inside memory b.prop.table.0 (lpi_count s.lpi_bits) && inside memory b.pend.table.0 (pending_bytes s.lpi_bits))) on)
    ∙ lacks) in
    record { config = w.0; pending = w.1 }
  where
    both : (x y : Bool) → not (x && y) ≡ false → (x ≡ true) × (y ≡ true)
    both true true e = (refl, refl)
    both true false e = absurd cc
    both false y e = absurd cc

redistributor_sound : (l : Layout) (memory : List Window) (bases : List Bases) (v : ℕ) (b : Bases) (r : Redistributor) → AreBasesOf l bases
    → AreRedistributorsClear l.shape memory bases → slice_get bases v ≡ Some b → IsRedistributorIn l.shape memory b r → IsRedistributor l memory v r
redistributor_sound l memory bases v b r kept clear at a =
    let on_is : r.bases.on ≡ b.on = ap (λ (x : Bases). x.on) a.bases in
    record {
      rising = elim b.on as (λ t. b.on ≡ t → IsStrictlyIncreasing r.pending) [
        | true ↦ λ on. (a.pending on).rising
        | false ↦ λ off. none_rises r.pending
            (a.off_pending off)
      ] refl;
      lpis = elim b.on as (λ t. b.on ≡ t → AllByRecursion (λ intid. is_lpi l.shape.lpi_bits intid ≡ true) r.pending) [
        | true ↦ λ on. all_of (λ intid. is_lpi l.shape.lpi_bits intid ≡ true) r.pending
            (λ y e. (and_parts (is_lpi l.shape.lpi_bits y) (is_set memory b.pend.table.0 y) (sym ((a.pending on).are y) ∙ e)).0)
        | false ↦ λ off. none_in_it (λ intid. is_lpi l.shape.lpi_bits intid ≡ true) r.pending (a.off_pending off)
      ] refl;
      config = elim b.on as (λ t. b.on ≡ t → length r.config ≡ lpi_count l.shape.lpi_bits) [
        | true ↦ λ on. length-read_at memory b.prop.table.0 (lpi_count l.shape.lpi_bits) r.config (a.config on)
        | false ↦ λ off. ap length (a.off_config off) ∙ length-replicate (lpi_count l.shape.lpi_bits) 0
      ] refl;
      accepts = a.accepts ∙ sym on_is;
      tables = λ on. subst (HasTables l.shape memory) (sym a.bases) (has_tables l.shape memory b (clear v b at) (sym on_is ∙ on));
      off_pending = λ off. a.off_pending (sym on_is ∙ off);
      off_config = λ off. a.off_config (sym on_is ∙ off);
      kept = λ gicr. subst AreKept (sym a.bases) (kept.kept gicr v b at);
      described = λ plain. (kept.described plain v b at).0 ∙ ap Some (sym a.bases);
      always_on = λ plain. on_is ∙ (kept.described plain v b at).1;
    }

-- ---- the machine

-- of values, or at reset
from_sound : (memory : List Window) (s : Shape) (o : Option RegValues) (t : Translator) → IsShape s → IsTranslatorFrom s memory o t → IsTranslator s t
from_sound memory s None t shape a = subst (IsTranslator s) (sym a) (reset_translator s shape)
from_sound memory s (Some values) t shape a = translator_sound memory s values t shape a

pub standing_sound : (memory : List Window) (values : List (Option RegValues)) (layout : Layout) (bases : List Bases) (u : Plain) → IsLayout layout
    → AreBasesOf layout bases → are_windows (map extent memory) ≡ true → Stands memory values layout bases u → IsSound u
standing_sound memory values layout bases u sound kept windows a = record {
  layout = subst IsLayout (sym a.layout_is) sound;
  translators = λ i t e.
      let lt : i < length values = subst (λ (n : ℕ). i < n) a.count (in_list u.translators i t e) in
      let v = exists_at values i lt in
      subst (λ (l : Layout). IsTranslator l.shape t) (sym a.layout_is)
      (from_sound memory layout.shape v.0 t sound.shape (a.translators i v.0 t v.1 e));
  vcpus = a.vcpus ∙ kept.as_many ∙ ap (λ (l : Layout). l.shape.vcpus) (sym a.layout_is);
  redistributors = λ v r e.
      let lt : v < length bases = subst (λ (n : ℕ). v < n) a.vcpus (in_list u.redistributors v r e) in
      let b = exists_at bases v lt in
      let s = redistributor_sound layout memory bases v b.0 r kept a.clear b.1 (a.redistributors v b.0 r b.1 e) in
      subst (λ (m : List Window). IsRedistributor u.layout m v r) (sym a.memory_is) (subst (λ (l : Layout). IsRedistributor l memory v r) (sym a.layout_is) s);
  memory = ap (λ (m : List Window). are_windows (map extent m)) a.memory_is ∙ windows;
  tracks = ap is_some a.track_is ∙ tracks_of layout.track memory ∙ ap (λ (l : Layout). l.track) (sym a.layout_is);
  tracked = λ t e. subst (λ (m : List Window). IsTracked m t) (sym a.memory_is) (tracked_of layout.track memory t (sym a.track_is ∙ e));
}
