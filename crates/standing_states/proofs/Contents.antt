-- The maps of what the walks find are those that memory stands for.
use Rattle.std.proofs.Common.{◌≡◌, ◌⊎◌, ℕ, zero, suc, ◌-◌, ◌<◌, Bool, true, false, not, cond, nat_lt, List, [], Option, Some, None, Result, Ok, Err, refl}
use Rattle.std.proofs.Common.{sym}
use Rattle.std.proofs.Common.{subst, ap, ◌∙◌, inl, inr, arith, ◌↔◌}
use Rattle.std.specs.Prelude.{◌||◌}
use Rattle.std.specs.Option.{option_and_then, ok_or}
use Rattle.std.specs.Ordering.{nat_cmp}
use Rattle.std.specs.FinMap as map
use Rattle.std.specs.FinMap.{FinMap}
use Rattle.std.proofs.lemmas.Bool.{eq-eqb, cases_lt, cases_eq}
use Rattle.guest_windows.specs.Windows.{Window, number_at}
use Rattle.gits_regs.specs.Registers.{Registers, is_valid, collection_places}
use Rattle.table_entries.specs.Fields.{CollectionFields}
use Rattle.table_entries.specs.Words.{unpacked_collection}
use Rattle.its_types.specs.Maps.{Maps, pair_cmp, device_of, event_of, collection_of, no_maps}
use Rattle.its_types.specs.declared.ids.Vcpu.{Vcpu}
use Rattle.its_types.specs.declared.machine.Shape.{Shape}
use Rattle.its_types.specs.declared.translation.Device.{Device}
use Rattle.its_types.specs.declared.translation.Event.{Event}
use Rattle.its_plain.specs.Walks.{ensure, ◌>>=◌}
use Rattle.its_plain.specs.EventTables.{itt_of, HasEvent}
use Rattle.its_plain.specs.CollectionTables.{collection_address, collection_entry, collection_check, collection_entry_check, next_collection, is_of, counted}
use Rattle.its_plain.specs.CollectionTables.{stands_before, CollectionReached, AreCollectionsClear, CollectionsOffend, HasCollection}
use Rattle.its_plain.specs.DeviceTables.{DevicePlace, first_device, next_device, DeviceReached, IsDeviceClear, DeviceFaults, AreDevicesClear, DevicesOffend}
use Rattle.its_plain.specs.DeviceTables.{HasDevice, HasEventOf}
use Rattle.its_plain.specs.Stands.{AreMapsIn}
use Rattle.its_plain.specs.declared.fault.RestoreFault.{RestoreFault}
use Rattle.its_plain.specs.declared.fault.RestoreFault.TheVariants.{OutsideTable}
use Rattle.standing_states.specs.Walked.{Among, after_all, after}
use Rattle.standing_states.specs.Found.{Found, put_event, put_found, put_collection, one_collection, look_collection, collections_from, collections_read}
use Rattle.standing_states.specs.Found.{look_device, devices_from, devices_read, rank, reach, maps_read}
use Rattle.standing_states.specs.Found.{IsPlace}
use Rattle.standing_states.proofs.Walks.{walk_found, walk_clear, walk_has, walk_err, after-ok, after-err}
use Rattle.standing_states.proofs.Filled.{no_device, no_event, no_collection, collection-mapped, device-put, events-put, event-put, event_found, put_before}
use Rattle.standing_states.proofs.Filled.{stays_put, collections-devices, devices-collections, events-collections}
use Rattle.standing_states.proofs.EventsWalked.{checked, checked_err, then_ok, events_among}
use Rattle.standing_states.proofs.CollectionsWalked.{collections_rise}
use Rattle.standing_states.proofs.DevicesWalked.{IsSmall, devices_rise, device_starts}
use Rattle.standing_states.proofs.Standing.{place_clear, place_faults, shows, Shows, has, one_device}

-- ---- a collection has one entry

three : (a b d : Bool) (f g h : RestoreFault) → (ensure a f >>= λ _. ensure b g >>= λ _. ensure (not d) h) ≡ Ok tt → d ≡ false
three true true true f g h e = absurd cc
three true true false f g h e = refl
three true false d f g h e = absurd cc
three false b d f g h e = absurd cc

or_true : (a : Bool) → (a || true) ≡ true
or_true true = refl
or_true false = refl

abbrev number_of : Option CollectionFields → Vcpu
number_of None = record { 0 = 0 }
number_of (Some c) = record { 0 = c.vcpu_number }

module _ (s : Shape) (memory : List Window) (r : Registers) where
  pub entry_of_word : (j : ℕ) (c : CollectionFields) (f : RestoreFault) (o : Option ℕ)
      → (ok_or o f >>= λ w. collection_entry_check s memory r j (counted s (unpacked_collection w))) ≡ Ok tt → option_and_then (λ w. counted s
      (unpacked_collection w)) o ≡ Some c
      → collection_entry_check s memory r j (Some c) ≡ Ok tt
  entry_of_word j c f None h e = absurd cc
  entry_of_word j c f (Some w) h e = ap (collection_entry_check s memory r j) (sym e) ∙ h

  not_double : (j : ℕ) (c : CollectionFields) → collection_check s memory r j ≡ Ok tt → collection_entry s memory r j ≡ Some c
      → stands_before s memory r j c.icid ≡ false
  not_double j c ok at =
      three (nat_lt c.icid (collection_places r)) (nat_lt c.vcpu_number s.vcpus) (stands_before s memory r j c.icid) _ _ _
      (entry_of_word j c (OutsideTable (record { 0 = collection_address r j })) (number_at memory (collection_address r j)) ok at)

  is_before : (j i : ℕ) (c : CollectionFields) → i < j → collection_entry s memory r i ≡ Some c → stands_before s memory r j c.icid ≡ true
  is_before zero i c lt at = absurd (omega arith)
  is_before (suc j) i c lt at =
      elim (cases_eq i j) [
        | inl same ↦ ap (λ o. is_of c.icid o || stands_before s memory r j c.icid) (ap (collection_entry s memory r) (sym same) ∙ at)
            ∙ ap (λ t. t || stands_before s memory r j c.icid) (eq-eqb c.icid c.icid refl)
        | inr apart ↦ ap (λ t. is_of c.icid (collection_entry s memory r j) || t) (is_before j i c (omega (arith, apart)) at)
            ∙ or_true (is_of c.icid (collection_entry s memory r j))
      ]

  apart_not : (i j : ℕ) (c d : CollectionFields) → c.icid ≡ d.icid → i < j → collection_check s memory r j ≡ Ok tt → collection_entry s memory r i ≡ Some c
      → collection_entry s memory r j ≡ Some d → ⊥
  apart_not i j c d same lt ok a b = let two : true ≡ false = sym (is_before j i c lt a) ∙ ap (stands_before s memory r j) same ∙ not_double j d ok b in cc

  one_entry : (icid : ℕ) (v w : Vcpu) (i j : ℕ) → collection_check s memory r i ≡ Ok tt → collection_check s memory r j ≡ Ok tt
      → collection_entry s memory r i ≡ Some (record { vcpu_number = v.0; icid = icid }) → collection_entry s memory r j ≡ Some
      (record { vcpu_number = w.0; icid = icid }) → v ≡ w
  one_entry icid v w i j oki okj a b =
      elim (cases_eq i j) [
        | inl same ↦
            let f : CollectionFields = record { vcpu_number = v.0; icid = icid } in
            let g : CollectionFields = record { vcpu_number = w.0; icid = icid } in
            let two : Some f ≡ Some g = sym a ∙ ap (collection_entry s memory r) same ∙ b in
            ap number_of two
        | inr apart ↦ elim (cases_lt i j) [
          | inl lt ↦ absurd (apart_not i j (record { vcpu_number = v.0; icid = icid }) (record { vcpu_number = w.0; icid = icid }) refl lt okj a b)
          | inr le ↦ absurd (apart_not j i (record { vcpu_number = w.0; icid = icid }) (record { vcpu_number = v.0; icid = icid }) refl
              (omega (arith, apart)) oki b a)
        ]
      ]

-- ---- collections

module _ (s : Shape) (memory : List Window) (r : Registers) (cs : List (ℕ × Vcpu)) (valid : is_valid r.baser1 ≡ true)
    (read : collections_from s memory r 0 ≡ Ok cs) where
  some_places : 0 < collection_places r
  some_places = omega arith

  collection_clear : (i : ℕ) → CollectionReached memory r i → collection_check s memory r i ≡ Ok tt
  collection_clear i at =
      let w = walk_clear (look_collection s memory r) (next_collection memory r) (λ j. j) (collection_places r) (λ j. j < collection_places r)
      (collections_rise memory r) (collection_places r - 0) 0 cs read some_places (omega arith) at.0 i at.1 in
      (checked (collection_check s memory r i) (one_collection (collection_entry s memory r i)) w.0 w.1).0

  among_one : (c : ℕ × Vcpu) (o : Option CollectionFields) → Among c (one_collection o) → o ≡ Some (record { vcpu_number = c.1.0; icid = c.0 })
  among_one c None a = absurd a
  among_one c (Some f) (inl e) = ap (λ (d : ℕ × Vcpu). Some (record { vcpu_number = d.1.0; icid = d.0 })) (sym e)
  among_one c (Some f) (inr a) = absurd a

  collection_from : (c : ℕ × Vcpu) → Among c cs → HasCollection s memory r c.0 c.1
  collection_from c a =
      let w = walk_found (look_collection s memory r) (next_collection memory r) (collection_places r - 0) 0 cs c read a in
      let v = checked (collection_check s memory r w.0) (one_collection (collection_entry s memory r w.0)) w.2.0 w.2.1 in
      (valid, w.0, w.1, among_one c (collection_entry s memory r w.0) (subst (Among c) v.1 w.2.2))

  collection_among : (icid : ℕ) (v : Vcpu) → HasCollection s memory r icid v → Among (icid, v) cs
  collection_among icid v h =
      walk_has (look_collection s memory r) (next_collection memory r) (λ j. j) (collection_places r) (λ j. j < collection_places r) (collections_rise memory r)
      (collection_places r - 0) 0 cs read some_places (omega arith) h.2.0 h.1 (icid, v) h.2.1 (
        one_collection (collection_entry s memory r h.1),
        then_ok (collection_check s memory r h.1) (one_collection (collection_entry s memory r h.1))
            (collection_clear h.1 h.2),
        subst (λ (o : Option CollectionFields). Among (icid, v) (one_collection o)) (sym h.3) (inl refl),
      )

  collection_once : (icid : ℕ) (v w : Vcpu) → HasCollection s memory r icid v → HasCollection s memory r icid w → v ≡ w
  collection_once icid v w h k = one_entry s memory r icid v w h.1 k.1 (collection_clear h.1 h.2) (collection_clear k.1 k.2) h.3 k.3

  pub collections_clear : AreCollectionsClear s memory r
  collections_clear _ i at = collection_clear i at

  pub collections_are : (icid : ℕ) (v : Vcpu) → (collection_of (after_all put_collection no_maps cs) icid ≡ Some v) ↔ HasCollection s memory r icid v
  collections_are icid v = (
    λ e. elim (put_before collection_of put_collection (λ c. c.0) (λ c. Some c.1) (λ m c q. collection-mapped m c.0 c.1 q) no_maps cs icid v e) [
      | inl x ↦
          let same : x.0.1 ≡ v = (let two = x.3 in cc) in
          subst (λ (c : ℕ × Vcpu). HasCollection s memory r c.0 c.1) (λ i. (sym x.2 i, same i)) (collection_from x.0 x.1)
      | inr old ↦ absurd (let two : None ≡ Some v = sym (no_collection icid) ∙ old in cc)
    ],
    λ h. stays_put collection_of put_collection (λ c. c.0) (λ c. Some c.1) (λ m c q. collection-mapped m c.0 c.1 q) no_maps cs icid v
        (λ c a same. ap Some (collection_once icid c.1 v (subst (λ (k : ℕ). HasCollection s memory r k c.1) (sym same) (collection_from c a)) h))
        (inl ((icid, v), collection_among icid v h, refl)),
  )

-- ---- devices

module _ (memory : List Window) (n : ℕ) (r : Registers) (small : IsSmall r) (fs : List Found) (valid : is_valid r.baser0 ≡ true)
    (read : devices_from memory n r (first_device r) ≡ Ok fs) where
  starts : IsPlace r (first_device r)
  starts = device_starts r small

  source : (x : Found) → Among x fs → (p : DevicePlace) × DeviceReached memory r p × Shows memory n r p x
  source x a = let w = walk_found (look_device memory n r) (next_device memory r) (reach r - rank (first_device r))
      (first_device r) fs x read a in (w.0, w.1, shows memory n r w.0 x w.2)

  looked : (p : DevicePlace) → DeviceReached memory r p → (xs : List Found) × (look_device memory n r p ≡ Ok xs)
  looked p at = let low = (devices_rise memory r small).below (first_device r) starts in walk_clear (look_device memory n r) (next_device memory r) rank
      (reach r) (IsPlace r) (devices_rise memory r small) (reach r - rank (first_device r)) (first_device r) fs read starts (omega arith) at.0 p at.1

  pub devices_clear : AreDevicesClear memory n r
  devices_clear _ p at = let k = looked p at in place_clear memory n r p k.0 k.1

  device_from : (x : Found) → Among x fs → HasDevice memory r x.dev x.device
  device_from x a = let w = source x a in (valid, w.0, w.1, sym w.2.dev, w.2.device)

  device_once : (dev : ℕ) (d e : Device) → HasDevice memory r dev d → HasDevice memory r dev e → d ≡ e
  device_once dev d e a b = one_device memory r small starts a.1 b.1 d e a.2 b.2 a.4 b.4 (a.3 ∙ sym b.3)

  -- what was found of a device
  device_back : (dev : ℕ) (d : Device) → HasDevice memory r dev d → (x : Found) × Among x fs × (x.dev ≡ dev) × (x.device ≡ d)
  device_back dev d a =
      let low = (devices_rise memory r small).below (first_device r) starts in
      let k = looked a.1 a.2 in
      let w = has memory n r a.1 d k.0 k.1 a.4 in (
        w.x,
        walk_has (look_device memory n r) (next_device memory r) rank (reach r) (IsPlace r) (devices_rise memory r small) (reach r - rank (first_device r))
            (first_device r) fs read starts (omega arith) a.2.0 a.1 w.x a.2.1 w.at,
        w.dev ∙ a.3,
        w.device,
      )

  pub devices_are : (m : Maps) → m.devices ≡ map.empty → (dev : ℕ) (d : Device) → (device_of (after_all put_found m fs) dev ≡ Some d) ↔ HasDevice memory r dev d
  devices_are m none dev d = (
    λ e. elim (put_before device_of put_found (λ x. x.dev) (λ x. Some x.device) device-put m fs dev d e) [
      | inl s ↦
          let same : s.0.device ≡ d = (let two = s.3 in cc) in
          subst (λ (p : ℕ × Device). HasDevice memory r p.0 p.1) (λ i. (sym s.2 i, same i)) (device_from s.0 s.1)
      | inr old ↦ absurd (let two : None ≡ Some d = sym (ap (λ (ds : FinMap nat_cmp Device). map.get ds dev) none ∙ no_device dev) ∙ old in cc)
    ],
    λ h.
        let w = device_back dev d h in
        stays_put device_of put_found (λ x. x.dev) (λ x. Some x.device) device-put m fs dev d
        (λ x a same. ap Some (device_once dev x.device d (subst (λ (k : ℕ). HasDevice memory r k x.device) (sym same) (device_from x a)) h))
        (inl (w.0, w.1, sym w.2)),
  )

  -- ---- events

  events_of : (x : Found) → Among x fs → (ev : ℕ) (e : Event) → Among (ev, e) x.events ↔ HasEvent memory (itt_of x.dev x.device) ev e
  events_of x a ev e = let w = source x a in events_among memory n (itt_of x.dev x.device) x.events w.2.some_bits w.2.events ev e

  event_once : (x : Found) (ev : ℕ) (e f : Event) → HasEvent memory (itt_of x.dev x.device) ev e → HasEvent memory (itt_of x.dev x.device) ev f → e ≡ f
  event_once x ev e f a b = let two : Some e ≡ Some f = sym a.1 ∙ b.1 in cc

  -- those of a device that was found
  found_events : (x : Found) → Among x fs → (ev : ℕ) (e : Event) → (event_found ev x ≡ Some e) ↔ HasEvent memory (itt_of x.dev x.device) ev e
  found_events x a ev e = (
    λ is. elim (put_before (λ m q. event_of m x.dev q) (put_event x.dev) (λ y. y.0) (λ y. Some y.1) (event-put x.dev) no_maps x.events ev e is) [
      | inl s ↦
          let same : s.0.1 ≡ e = (let two = s.3 in cc) in
          (events_of x a ev e).0 (subst (λ (y : ℕ × Event). Among y x.events) (λ i. (sym s.2 i, same i)) s.1)
      | inr old ↦ absurd (let two : None ≡ Some e = sym (no_event x.dev ev) ∙ old in cc)
    ],
    λ h. stays_put (λ m q. event_of m x.dev q) (put_event x.dev) (λ y. y.0) (λ y. Some y.1) (event-put x.dev) no_maps x.events ev e
        (λ y b same. ap Some (event_once x ev y.1 e ((events_of x a ev y.1).0 (subst (λ (k : ℕ). Among (k, y.1) x.events) (sym same) b)) h))
        (inl ((ev, e), (events_of x a ev e).1 h, refl)),
  )

  -- whatever was found of a device has its events
  event_at : (x : Found) → Among x fs → (dev ev : ℕ) (e : Event) → dev ≡ x.dev → HasEventOf memory r dev ev e → event_found ev x ≡ Some e
  event_at x a dev ev e same h =
      let is : x.device ≡ h.0 = device_once dev x.device h.0 (subst (λ (k : ℕ). HasDevice memory r k x.device) (sym same) (device_from x a)) h.1 in
      (found_events x a ev e).1 (subst (λ (p : ℕ × Device). HasEvent memory (itt_of p.0 p.1) ev e) (λ i. (same i, sym is i)) h.2)

  pub events_are : (m : Maps) → m.events ≡ map.empty → (dev ev : ℕ) (e : Event) → (event_of (after_all put_found m fs) dev ev ≡ Some e) ↔ HasEventOf memory r
      dev ev e
  events_are m none dev ev e = (
    λ is. elim (put_before (λ u q. event_of u q ev) put_found (λ x. x.dev) (event_found ev) (events-put ev) m fs dev e is) [
      | inl s ↦ subst (λ (k : ℕ). HasEventOf memory r k ev e) (sym s.2) (s.0.device, device_from s.0 s.1, (found_events s.0 s.1 ev e).0 s.3)
      | inr old ↦ absurd (let two : None ≡ Some e = sym (ap (λ (es : FinMap pair_cmp Event). map.get es (dev, ev)) none ∙ no_event dev ev) ∙ old in cc)
    ],
    λ h.
        let w = device_back dev h.0 h.1 in
        stays_put (λ u q. event_of u q ev) put_found (λ x. x.dev) (event_found ev) (events-put ev) m fs dev e
        (λ x a same. event_at x a dev ev e same h)
        (inl (w.0, w.1, sym w.2)),
  )

-- ---- a table that isn't valid

none_of : {A : Type 0} (b : Bool) → b ≡ false → b ≡ true → A
none_of b f t = absurd (let two : false ≡ true = sym f ∙ t in cc)

collection_facts : (s : Shape) (memory : List Window) (r : Registers) (cs : List (ℕ × Vcpu)) (b : Bool) → is_valid r.baser1 ≡ b
    → cond b (collections_from s memory r 0) (Ok []) ≡ Ok cs
    → AreCollectionsClear s memory r × ((icid : ℕ) (v : Vcpu) → (collection_of (after_all put_collection no_maps cs) icid ≡ Some v) ↔ HasCollection s memory r
    icid v)
collection_facts s memory r cs true is e = (collections_clear s memory r cs is e, collections_are s memory r cs is e)
collection_facts s memory r cs false is e =
    let none : [] ≡ cs = cc in (
      λ yes. none_of (is_valid r.baser1) is yes,
      λ icid v. (
        λ s. absurd (let two : None ≡ Some v = sym (no_collection icid)
            ∙ subst (λ (xs : List (ℕ × Vcpu)). collection_of (after_all put_collection no_maps xs) icid ≡ Some v) (sym none) s in cc),
        λ h.
            none_of (is_valid r.baser1) is h.0,
      ),
    )

device_facts : (memory : List Window) (n : ℕ) (r : Registers) (small : IsSmall r) (fs : List Found) (m : Maps) (b : Bool) → is_valid r.baser0 ≡ b
    → cond b (devices_from memory n r (first_device r)) (Ok []) ≡ Ok fs → m.devices ≡ map.empty → m.events ≡ map.empty
    → AreDevicesClear memory n r × ((dev : ℕ) (d : Device) → (device_of (after_all put_found m fs) dev ≡ Some d) ↔ HasDevice memory r dev d)
    × ((dev ev : ℕ) (e : Event) → (event_of (after_all put_found m fs) dev ev ≡ Some e) ↔ HasEventOf memory r dev ev e)
device_facts memory n r small fs m true is e no_devices no_events =
    (devices_clear memory n r small fs is e, devices_are memory n r small fs is e m no_devices, events_are memory n r small fs is e m no_events)
device_facts memory n r small fs m false is e no_devices no_events =
    let none : [] ≡ fs = cc in (
      λ yes. none_of (is_valid r.baser0) is yes,
      (λ dev d. (
        λ s. absurd (let two : None ≡ Some d = sym (ap (λ (ds : FinMap nat_cmp Device). map.get ds dev) no_devices ∙ no_device dev)
            ∙ subst (λ (xs : List Found). device_of (after_all put_found m xs) dev ≡ Some d) (sym none) s in cc),
        λ h. none_of (is_valid r.baser0) is h.0,
      )),
      (λ dev ev d. (
        λ s. absurd (let two : None ≡ Some d = sym (ap (λ (es : FinMap pair_cmp Event). map.get es (dev, ev)) no_events ∙ no_event dev ev)
            ∙ subst (λ (xs : List Found). event_of (after_all put_found m xs) dev ev ≡ Some d) (sym none) s in cc),
        λ h. none_of (is_valid r.baser0) is h.1.0,
      )),
    )

-- ---- all maps

ok_parts : {A B : Type 0} (x : Result A RestoreFault) (f : A → Result B RestoreFault) (y : B) → (x >>= f) ≡ Ok y → (a : A) × (x ≡ Ok a) × (f a ≡ Ok y)
ok_parts (Ok a) f y e = (a, refl, e)
ok_parts (Err g) f y e = absurd cc

err_parts : {A B : Type 0} (x : Result A RestoreFault) (f : A → Result B RestoreFault) (g : RestoreFault) → (x >>= f) ≡ Err g → (x ≡ Err g)
    ⊎ ((a : A) × (x ≡ Ok a) × (f a ≡ Err g))
err_parts (Ok a) f g e = inr (a, refl, e)
err_parts (Err h) f g e = inl cc

pub maps_stand : (s : Shape) (memory : List Window) (r : Registers) (m : Maps) → IsSmall r → maps_read s memory r ≡ Ok m → AreMapsIn s memory r m
maps_stand s memory r m small e =
    let w = ok_parts (after put_collection no_maps (collections_read s memory r)) (λ u. after put_found u (devices_read memory s.lpi_bits r)) m e in
    let c = after-ok put_collection no_maps w.0 (collections_read s memory r) w.1 in
    let d = after-ok put_found w.0 m (devices_read memory s.lpi_bits r) w.2 in
    let cf = collection_facts s memory r c.0 (is_valid r.baser1) refl c.1 in
    let df = device_facts memory s.lpi_bits r small d.0 w.0 (is_valid r.baser0) refl d.1 (ap (λ (u : Maps). u.devices) c.2 ∙ devices-collections c.0 no_maps)
    (ap (λ (u : Maps). u.events) c.2 ∙ events-collections c.0 no_maps) in
    subst (AreMapsIn s memory r) (sym d.2) (record {
      collections_clear = cf.0;
      devices_clear = df.0;
      collections = λ icid v. subst (λ (cs : FinMap nat_cmp Vcpu). (map.get cs icid ≡ Some v) ↔ HasCollection s memory r icid v)
          (sym (collections-devices d.0 w.0 ∙ ap (λ (u : Maps). u.collections) c.2)) (cf.1 icid v);
      devices = df.1;
      events = df.2;
    })

-- ---- the first offence

collections_offend : (s : Shape) (memory : List Window) (r : Registers) (f : RestoreFault) (b : Bool) → is_valid r.baser1 ≡ b
    → cond b (collections_from s memory r 0) (Ok []) ≡ Err f → CollectionsOffend s memory r f
collections_offend s memory r f true is e = (
  is,
  walk_err (look_collection s memory r) (next_collection memory r) (λ i. collection_check s memory r i ≡ Ok tt) (λ i g. collection_check s memory r i ≡ Err g)
      (λ i xs ok. (checked (collection_check s memory r i) (one_collection (collection_entry s memory r i)) xs ok).0)
      (λ i g wrong. checked_err (collection_check s memory r i) (one_collection (collection_entry s memory r i)) g wrong) (collection_places r - 0) 0 f e,
)
collections_offend s memory r f false is e = absurd cc

devices_offend : (memory : List Window) (n : ℕ) (r : Registers) (f : RestoreFault) (b : Bool) → is_valid r.baser0 ≡ b
    → cond b (devices_from memory n r (first_device r)) (Ok []) ≡ Err f → DevicesOffend memory n r f
devices_offend memory n r f true is e = (
  is,
  walk_err (look_device memory n r) (next_device memory r) (IsDeviceClear memory n r) (DeviceFaults memory n r) (place_clear memory n r)
      (place_faults memory n r) (reach r - rank (first_device r)) (first_device r) f e,
)
devices_offend memory n r f false is e = absurd cc

pub maps_offend : (s : Shape) (memory : List Window) (r : Registers) (f : RestoreFault) → maps_read s memory r ≡ Err f
    → CollectionsOffend s memory r f ⊎ (AreCollectionsClear s memory r × DevicesOffend memory s.lpi_bits r f)
maps_offend s memory r f e =
    elim (err_parts (after put_collection no_maps (collections_read s memory r)) (λ u. after put_found u (devices_read memory s.lpi_bits r)) f e) [
      | inl wrong ↦ inl (collections_offend s memory r f (is_valid r.baser1) refl
          (after-err put_collection no_maps (collections_read s memory r) f wrong))
      | inr w ↦
          let c = after-ok put_collection no_maps w.0 (collections_read s memory r) w.1 in
          inr (
            (collection_facts s memory r c.0 (is_valid r.baser1) refl c.1).0,
            devices_offend memory s.lpi_bits r f (is_valid r.baser0) refl
                (after-err put_found w.0 (devices_read memory s.lpi_bits r) f w.2),
          )
    ]
