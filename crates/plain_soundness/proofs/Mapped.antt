-- The maps of a translator, and what each change of them keeps.
use Rattle.std.proofs.Common.{◌≡◌, ℕ, ◌*◌, ◌<◌, min, true, not, eqb, Some, None, refl, sym, ap, subst, ◌∙◌}
use Rattle.std.specs.Ordering.{nat_cmp}
use Rattle.std.specs.Cmp.{nat_cmp_total}
use Rattle.std.specs.FinMap.{nat_cmp-IsAntisymmetric, get-empty}
use Rattle.std.proofs.lemmas.Bool.{not-true, eqb-false}
use Rattle.std.proofs.lemmas.Option.{none-some}
use Rattle.its_types.specs.Ranges.{is_device_id}
use Rattle.gits_regs.specs.Registers as regs
use Rattle.gits_regs.specs.Registers.{Registers, is_valid, is_indirect, pages}
use Rattle.its_types.specs.Maps.{Maps, pair_cmp, is_pair, no_maps, device_of, event_of, collection_of, device_mapped, device_unmapped, event_mapped}
use Rattle.its_types.specs.Maps.{event_unmapped, collection_mapped, collection_unmapped, devices_emptied, collections_emptied}
use Rattle.its_types.specs.declared.ids.Vcpu.{Vcpu}
use Rattle.its_types.specs.declared.machine.Shape.{Shape}
use Rattle.its_types.specs.declared.translation.Device.{Device}
use Rattle.its_types.specs.declared.translation.Event.{Event}
use Rattle.its_plain.specs.Plain.{Translator}
use Rattle.its_plain.specs.Sound.{IsDevice, IsEvent, IsCollection, IsTranslator}
use Rattle.its_types.proofs.PairOrder.{pair_total, pair_same}
use Rattle.plain_soundness.proofs.FiniteMaps.{inserted, not_inserted, retained, still_there}
use Rattle.plain_soundness.proofs.FiniteMaps.Found.{new, kept}

-- ---- where nothing is mapped

no_device : (dev : ℕ) → device_of no_maps dev ≡ None
no_device dev = get-empty nat_cmp dev

no_event : (dev ev : ℕ) → event_of no_maps dev ev ≡ None
no_event dev ev = get-empty pair_cmp (dev, ev)

no_collection : (icid : ℕ) → collection_of no_maps icid ≡ None
no_collection icid = get-empty nat_cmp icid

-- what a sound translator's maps are, beside its registers
pub record AreMaps (s : Shape) (r : Registers) (m : Maps) : Type 0 where
  pub devices : (dev : ℕ) (d : Device) → device_of m dev ≡ Some d → IsDevice r dev d
  pub events : (dev ev : ℕ) (e : Event) → event_of m dev ev ≡ Some e → IsEvent s m dev ev e
  pub collections : (icid : ℕ) (vcpu : Vcpu) → collection_of m icid ≡ Some vcpu → IsCollection s r icid vcpu

pub maps_sound : (s : Shape) (t : Translator) → IsTranslator s t → AreMaps s t.regs t.maps
maps_sound s t h = record { devices = h.devices; events = h.events; collections = h.collections }

pub translator_made : (s : Shape) (r : Registers) (m : Maps) → regs.IsSound r → r.dev_bits ≡ s.dev_bits → AreMaps s r m
    → IsTranslator s (record { regs = r; maps = m })
translator_made s r m sound bits maps = record { regs = sound; dev_bits = bits; devices = maps.devices; events = maps.events; collections = maps.collections }

-- ---- the registers change

-- the tables stay as they are
pub record SameTables (before after : Registers) : Type 0 where
  pub dev_bits : after.dev_bits ≡ before.dev_bits
  pub baser0 : after.baser0 ≡ before.baser0
  pub baser1 : after.baser1 ≡ before.baser1

pub device_kept : (r q : Registers) (dev : ℕ) (d : Device) → q.dev_bits ≡ r.dev_bits → q.baser0 ≡ r.baser0 → IsDevice r dev d → IsDevice q dev d
device_kept r q dev d bits base h = record {
  table = ap is_valid base ∙ h.table;
  in_range = ap (λ n. is_device_id n dev) bits ∙ h.in_range;
  in_table = λ flat. subst (λ b. dev < 8192 * pages b) (sym base) (h.in_table (sym (ap is_indirect base) ∙ flat));
  least_bits = h.least_bits;
  most_bits = h.most_bits;
  itt_whole = h.itt_whole;
  itt_low = h.itt_low;
}

pub collection_kept : (s : Shape) (r q : Registers) (icid : ℕ) (vcpu : Vcpu) → q.baser1 ≡ r.baser1 → IsCollection s r icid vcpu → IsCollection s q icid vcpu
collection_kept s r q icid vcpu base h = record {
  table = ap is_valid base ∙ h.table;
  in_table = subst (λ b. icid < 8192 * min (pages b) 8) (sym base) h.in_table;
  target = h.target;
}

pub same_tables : (s : Shape) (r q : Registers) (m : Maps) → SameTables r q → AreMaps s r m → AreMaps s q m
same_tables s r q m same h = record {
  devices = λ dev d e. device_kept r q dev d same.dev_bits same.baser0 (h.devices dev d e);
  events = h.events;
  collections = λ icid vcpu e. collection_kept s r q icid vcpu same.baser1 (h.collections icid vcpu e);
}

-- ---- nothing is mapped

pub no_maps_sound : (s : Shape) (r : Registers) → AreMaps s r no_maps
no_maps_sound s r = record {
  devices = λ dev d e. absurd (none-some d (sym (no_device dev) ∙ e));
  events = λ dev ev x e. absurd (none-some x (sym (no_event dev ev) ∙ e));
  collections = λ icid vcpu e. absurd (none-some vcpu (sym (no_collection icid) ∙ e));
}

-- a new device table: the collections stay
pub no_devices : (s : Shape) (r q : Registers) (m : Maps) → q.baser1 ≡ r.baser1 → AreMaps s r m → AreMaps s q (devices_emptied m)
no_devices s r q m base h = record {
  devices = λ dev d e. (no_maps_sound s q).devices dev d e;
  events = λ dev ev x e. absurd (none-some x (sym (no_event dev ev) ∙ e));
  collections = λ icid vcpu e. collection_kept s r q icid vcpu base (h.collections icid vcpu e);
}

event_in : (s : Shape) (m n : Maps) (dev ev : ℕ) (e : Event) → device_of n dev ≡ device_of m dev → IsEvent s m dev ev e → IsEvent s n dev ev e
event_in s m n dev ev e same h = record { device = h.device; device_is = same ∙ h.device_is; in_bits = h.in_bits; lpi = h.lpi; icid = h.icid }

-- a new collection table: the devices and their events stay
pub no_collections : (s : Shape) (r q : Registers) (m : Maps) → q.dev_bits ≡ r.dev_bits → q.baser0 ≡ r.baser0 → AreMaps s r m
    → AreMaps s q (collections_emptied m)
no_collections s r q m bits base h = record {
  devices = λ dev d e. device_kept r q dev d bits base (h.devices dev d e);
  events = λ dev ev x e. event_in s m (collections_emptied m) dev ev x refl (h.events dev ev x e);
  collections = λ icid vcpu e. (no_maps_sound s q).collections icid vcpu e;
}

-- ---- devices

-- an event that is left is of another device
other_device : (dev d : ℕ) → not (eqb d dev) ≡ true → d ≡ dev → ⊥
other_device dev d e = eqb-false d dev (not-true (eqb d dev) e)

pub device_added : (s : Shape) (r : Registers) (m : Maps) (dev : ℕ) (device : Device) → IsDevice r dev device → AreMaps s r m
    → AreMaps s r (device_mapped m dev device)
device_added s r m dev device fits h = record {
  devices = λ d x e. elim (inserted nat_cmp nat_cmp_total nat_cmp-IsAntisymmetric m.devices dev device d x e) [
    | new same is ↦ subst (IsDevice r d) is (subst (λ n. IsDevice r n device) (sym same) fits)
    | kept old ↦ h.devices d x old
  ];
  events = λ d ev x e.
      let left = retained pair_cmp pair_total pair_same m.events (λ k. not (eqb k.0 dev)) (d, ev) x e in
      event_in s m (device_mapped m dev device) d ev x (not_inserted nat_cmp nat_cmp_total nat_cmp-IsAntisymmetric m.devices dev device d
      (other_device dev d left.0)) (h.events d ev x left.1);
  collections = h.collections;
}

pub device_removed : (s : Shape) (r : Registers) (m : Maps) (dev : ℕ) → AreMaps s r m → AreMaps s r (device_unmapped m dev)
device_removed s r m dev h = record {
  devices = λ d x e. h.devices d x (retained nat_cmp nat_cmp_total nat_cmp-IsAntisymmetric m.devices (λ k. not (eqb k dev)) d x e).1;
  events = λ d ev x e.
      let left = retained pair_cmp pair_total pair_same m.events (λ k. not (eqb k.0 dev)) (d, ev) x e in
      event_in s m (device_unmapped m dev) d ev x (still_there nat_cmp nat_cmp_total nat_cmp-IsAntisymmetric m.devices (λ k. not (eqb k dev)) d left.0)
      (h.events d ev x left.1);
  collections = h.collections;
}

-- ---- events

pub event_added : (s : Shape) (r : Registers) (m : Maps) (dev ev : ℕ) (event : Event) → IsEvent s m dev ev event → AreMaps s r m
    → AreMaps s r (event_mapped m dev ev event)
event_added s r m dev ev event fits h = record {
  devices = h.devices;
  events = λ d v x e. elim (inserted pair_cmp pair_total pair_same m.events (dev, ev) event (d, v) x e) [
    | new same is ↦
        let here : IsEvent s m d v event = subst (λ (k : ℕ × ℕ). IsEvent s m k.0 k.1 event) (sym same) fits in
        event_in s m (event_mapped m dev ev event) d v x refl (subst (IsEvent s m d v) is here)
    | kept old ↦ event_in s m (event_mapped m dev ev event) d v x refl (h.events d v x old)
  ];
  collections = h.collections;
}

pub event_removed : (s : Shape) (r : Registers) (m : Maps) (dev ev : ℕ) → AreMaps s r m → AreMaps s r (event_unmapped m dev ev)
event_removed s r m dev ev h = record {
  devices = h.devices;
  events = λ d v x e. event_in s m (event_unmapped m dev ev) d v x refl
      (h.events d v x (retained pair_cmp pair_total pair_same m.events (λ k. not (is_pair dev ev k)) (d, v) x e).1);
  collections = h.collections;
}

-- ---- collections

pub collection_added : (s : Shape) (r : Registers) (m : Maps) (icid : ℕ) (vcpu : Vcpu) → IsCollection s r icid vcpu → AreMaps s r m
    → AreMaps s r (collection_mapped m icid vcpu)
collection_added s r m icid vcpu fits h = record {
  devices = h.devices;
  events = λ d v x e. event_in s m (collection_mapped m icid vcpu) d v x refl (h.events d v x e);
  collections = λ c x e. elim (inserted nat_cmp nat_cmp_total nat_cmp-IsAntisymmetric m.collections icid vcpu c x e) [
    | new same is ↦ subst (IsCollection s r c) is (subst (λ n. IsCollection s r n vcpu) (sym same) fits)
    | kept old ↦ h.collections c x old
  ];
}

pub collection_removed : (s : Shape) (r : Registers) (m : Maps) (icid : ℕ) → AreMaps s r m → AreMaps s r (collection_unmapped m icid)
collection_removed s r m icid h = record {
  devices = h.devices;
  events = λ d v x e. event_in s m (collection_unmapped m icid) d v x refl (h.events d v x e);
  collections = λ c x e. h.collections c x (retained nat_cmp nat_cmp_total nat_cmp-IsAntisymmetric m.collections (λ k. not (eqb k icid)) c x e).1;
}
