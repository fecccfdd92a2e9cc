-- What each call makes of the maps.
use Rattle.std.proofs.Common.{◌≡◌, ℕ, false, not, ◌==◌, Some, None, Option, IfSome, is_some, refl, sym, ap, ◌∙◌, subst}
use mathlib.Core.Bool.{false≢true}
use Rattle.std.specs.Option.{option_map, option_and_then}
use Rattle.std.specs.Ordering.{nat_cmp}
use Rattle.std.specs.FinMap as finmap
use Rattle.std.specs.FinMap.{FinMap}
use Rattle.its_types.specs.Maps.{event_of, device_mapped, device_unmapped, event_mapped, event_unmapped}
use Rattle.its_types.specs.declared.ids.Vcpu.{Vcpu}
use Rattle.its_types.specs.declared.ids.Icid.{Icid}
use Rattle.its_types.specs.declared.translation.Event.{Event}
use Rattle.its_maps.specs.declared.device_record.DeviceRecord.{DeviceRecord}
use Rattle.its_maps.specs.LookUp.{found, looked_up}
use Rattle.its_maps.specs.MapsRoom.{EventsHaveDevices}
use Rattle.its_maps.specs.View.{shown, devices_in, events_in}
use Rattle.its_maps.proofs.Values.{get-values_by, values_by-empty, values_by-insert, values_by-retain, insert_same}
use Rattle.its_maps.proofs.Events.{event_in, get-events_in}
use Rattle.its_maps.proofs.Changes.{events_empty, events_cleared, events_dropped, event_put, event_taken, events_left, event_here, nothing_taken, device_there}

-- ---- what is there

some_map : {V W : Type 0} (f : V → W) (o : Option V) → is_some (option_map f o) ≡ is_some o
some_map f None = refl
some_map f (Some x) = refl

none_of : {V : Type 0} (o : Option V) → is_some o ≡ false → o ≡ None
none_of None e = refl
none_of (Some x) e = absurd (false≢true (sym e))

module _ (m : FinMap nat_cmp DeviceRecord) (dev : ℕ) where
  pub has_device : is_some (finmap.get (devices_in m) dev) ≡ finmap.contains_key m dev
  has_device = ap is_some (get-values_by (λ d. d.device) m dev) ∙ some_map (λ d. d.device) (finmap.get m dev)

  pub no_device : finmap.contains_key m dev ≡ false → finmap.get (devices_in m) dev ≡ None
  no_device absent = none_of _ (has_device ∙ absent)

  module _ (old : DeviceRecord) (here : Some old ≡ finmap.get m dev) where
    pub has_event : (ev : ℕ) → is_some (finmap.get (events_in m) (dev, ev)) ≡ finmap.contains_key old.events.map ev
    has_event ev = ap is_some (event_here m dev old here ev)

    pub no_event : (ev : ℕ) → finmap.contains_key old.events.map ev ≡ false → finmap.get (events_in m) (dev, ev) ≡ None
    no_event ev absent = none_of _ (has_event ev ∙ absent)

-- ---- what is left of the maps

-- the devices stay where a record keeps its own
devices_left : (m : FinMap nat_cmp DeviceRecord) (dev : ℕ) (old r : DeviceRecord) → Some old ≡ finmap.get m dev → r.device ≡ old.device
    → devices_in (finmap.insert m dev r) ≡ devices_in m
devices_left m dev old r here same =
    values_by-insert (λ d. d.device) m dev r
    ∙ ap (finmap.insert (devices_in m) dev) same
    ∙ insert_same (devices_in m) dev old.device (sym (get-values_by (λ d. d.device) m dev ∙ ap (option_map (λ d. d.device)) (sym here)))

module _ (m : FinMap nat_cmp DeviceRecord) (c : FinMap nat_cmp Vcpu) (dev : ℕ) where
  pub after_map_device : (r : DeviceRecord) → r.events.map ≡ finmap.empty → shown (finmap.insert m dev r) c ≡ device_mapped (shown m c) dev r.device
  after_map_device r none = λ i. record { devices = values_by-insert (λ d. d.device) m dev r i; events = events_cleared m dev r none i; collections = c }

  pub after_unmap_device : shown (finmap.retain_keys m (λ k. not (k == dev))) c ≡ device_unmapped (shown m c) dev
  after_unmap_device = λ i. record { devices = values_by-retain (λ d. d.device) m (λ k. not (k == dev)) i; events = events_dropped m dev i; collections = c }

  pub after_unmap_nothing : finmap.contains_key m dev ≡ false → (ev : ℕ) → shown m c ≡ event_unmapped (shown m c) dev ev
  after_unmap_nothing absent ev = λ i. record { devices = devices_in m; events = sym (nothing_taken m dev (sym (none_of _ absent)) ev) i; collections = c }

  module _ (old : DeviceRecord) (here : Some old ≡ finmap.get m dev) (r : DeviceRecord) (same : r.device ≡ old.device) where
    pub after_map_event : (ev : ℕ) (event : Event) → r.events.map ≡ finmap.insert old.events.map ev event → shown (finmap.insert m dev r) c ≡ event_mapped
        (shown m c) dev ev event
    after_map_event ev event is = λ i. record {
      devices = devices_left m dev old r here same i;
      events = event_put m dev old here r ev event is i;
      collections = c;
    }

    pub after_move_event : (ev : ℕ) (icid : Icid) → IfSome (finmap.get old.events.map ev)
        (λ e. r.events.map ≡ finmap.insert old.events.map ev (record { intid = e.intid; icid = icid }))
        → IfSome (event_of (shown m c) dev ev) (λ e. shown (finmap.insert m dev r) c ≡ event_mapped (shown m c) dev ev
        (record { intid = e.intid; icid = icid }))
    after_move_event ev icid moved =
        subst (λ o. IfSome o (λ e. shown (finmap.insert m dev r) c ≡ event_mapped (shown m c) dev ev (record { intid = e.intid; icid = icid })))
        (sym (event_here m dev old here ev)) (at (finmap.get old.events.map ev) moved)
      where
        at : (o : Option Event) → IfSome o (λ e. r.events.map ≡ finmap.insert old.events.map ev (record { intid = e.intid; icid = icid }))
            → IfSome o (λ e. shown (finmap.insert m dev r) c ≡ event_mapped (shown m c) dev ev (record { intid = e.intid; icid = icid }))
        at None h = tt
        at (Some e) h = after_map_event ev (record { intid = e.intid; icid = icid }) h

    pub after_unmap_event : (ev : ℕ) → r.events.map ≡ finmap.retain_keys old.events.map (λ k. not (k == ev)) → shown (finmap.insert m dev r) c ≡ event_unmapped
        (shown m c) dev ev
    after_unmap_event ev is = λ i. record { devices = devices_left m dev old r here same i; events = event_taken m dev old here r ev is i; collections = c }

    pub after_room : r.events.map ≡ old.events.map → shown (finmap.insert m dev r) c ≡ shown m c
    after_room is = λ i. record { devices = devices_left m dev old r here same i; events = events_left m dev old here r is i; collections = c }

pub none_shown : (c : FinMap nat_cmp Vcpu) → shown finmap.empty c ≡ record { devices = finmap.empty; events = finmap.empty; collections = c }
none_shown c = λ i. record { devices = values_by-empty (λ (d : DeviceRecord). d.device) i; events = events_empty i; collections = c }

-- ---- what is read

pub device_found : (m : FinMap nat_cmp DeviceRecord) (dev : ℕ) (o : Option DeviceRecord) → o ≡ finmap.get m dev → option_map (λ d. d.device) o ≡ finmap.get
    (devices_in m) dev
device_found m dev o is = ap (option_map (λ (d : DeviceRecord). d.device)) is ∙ sym (get-values_by (λ (d : DeviceRecord). d.device) m dev)

pub event_found : (m : FinMap nat_cmp DeviceRecord) (dev ev : ℕ) (o : Option DeviceRecord) → o ≡ finmap.get m dev → option_and_then (event_in ev) o ≡ finmap.get
    (events_in m) (dev, ev)
event_found m dev ev o is = ap (option_and_then (event_in ev)) is ∙ sym (get-events_in m (dev, ev))

pub looked : (m : FinMap nat_cmp DeviceRecord) (c : FinMap nat_cmp Vcpu) (dev ev : ℕ) (o : Option DeviceRecord) → o ≡ finmap.get m dev
    → found (option_map (λ d. d.device) o) (option_and_then (event_in ev) o) ≡ looked_up (shown m c) dev ev
looked m c dev ev o is = λ i. found (device_found m dev o is i) (event_found m dev ev o is i)

pub events_have_devices : (m : FinMap nat_cmp DeviceRecord) (c : FinMap nat_cmp Vcpu) → EventsHaveDevices (shown m c)
events_have_devices m c dev ev some = has_device m dev ∙ device_there m dev ev some
