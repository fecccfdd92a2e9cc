-- What a look at a place of the device table tells: that it is clear and what it has, or its first offence.
use Rattle.std.proofs.Common.{◌≡◌, ℕ, ◌+◌, ◌*◌, ◌^◌, ◌<◌, ◌≤◌, Bool, true, false, nat_le, List, [], ◌∷◌, Option, Some, None, Result, Ok, Err, refl, sym}
use Rattle.std.proofs.Common.{subst}
use Rattle.std.proofs.Common.{ap, ◌∙◌, inl, inr, arith, pow_pos}
use Rattle.std.specs.Option.{option_map, ok_or, IsSome}
use Rattle.std.proofs.lemmas.Bool.{leb-true, leb-false}
use Rattle.guest_windows.specs.Windows.{Window, number_at}
use Rattle.gits_regs.specs.Registers.{Registers, is_indirect}
use Rattle.table_entries.specs.Fields.{DeviceFields}
use Rattle.its_types.specs.declared.translation.Device.{Device}
use Rattle.its_types.specs.declared.translation.Event.{Event}
use Rattle.its_plain.specs.Walks.{Reached, Path, ensure, ◌>>=◌}
use Rattle.its_plain.specs.EventTables.{itt_of, IsIttClear}
use Rattle.its_plain.specs.DeviceTables.{DevicePlace, at_level1, at_entry, first_device, page_places, device_id, id_of, index_of, device_address, next_device}
use Rattle.its_plain.specs.DeviceTables.{device_entry, device_of_fields, device_in, ends_well, IsDeviceClear, DeviceFaults, is_outside, has_bad_size}
use Rattle.its_plain.specs.DeviceTables.{has_bad_itt, leads_past}
use Rattle.its_plain.specs.declared.fault.Table.TheVariants.{Devices}
use Rattle.its_plain.specs.declared.fault.RestoreFault.{RestoreFault}
use Rattle.its_plain.specs.declared.fault.RestoreFault.TheVariants.{OutsideTable, BadSize, PastEnd}
use Rattle.standing_states.specs.Walked.{Among, HasAt}
use Rattle.standing_states.specs.Found.{Found, events_read, found_at, look_device, rank, reach}
use Rattle.standing_states.specs.Found.{IsPlace}
use Rattle.standing_states.proofs.Walks.{reached_once}
use Rattle.standing_states.proofs.EventsWalked.{events_clear, events_fault}
use Rattle.standing_states.proofs.DevicesWalked.{IsSmall, devices_rise, page_of_two}

-- ---- a chain of tests around a result

record Went {X Y : Type 0} (a b : Bool) (r : Result Y RestoreFault) (k : Y → X) (x : X) : Type 0 where
  first : a ≡ true
  y : Y
  inner : r ≡ Ok y
  last : b ≡ true
  made : x ≡ k y

went : {X Y : Type 0} (a b : Bool) (r : Result Y RestoreFault) (f g : RestoreFault) (k : Y → X) (x : X)
    → (ensure a f >>= λ _. r >>= λ y. ensure b g >>= λ _. Ok (k y)) ≡ Ok x → Went a b r k x
went true true (Ok y) f g k x e = record { first = refl; y = y; inner = refl; last = refl; made = cc }
went true false (Ok y) f g k x e = absurd cc
went true b (Err h) f g k x e = absurd cc
went false b r f g k x e = absurd cc

data Failed {Y : Type 0} (a b : Bool) (r : Result Y RestoreFault) (f g : RestoreFault) : RestoreFault → Type 0 where
  at_first : a ≡ false → Failed a b r f g f
  inside : (h : RestoreFault) → a ≡ true → r ≡ Err h → Failed a b r f g h
  at_last : (y : Y) → a ≡ true → r ≡ Ok y → b ≡ false → Failed a b r f g g

failed : {X Y : Type 0} (a b : Bool) (r : Result Y RestoreFault) (f g : RestoreFault) (k : Y → X) (h : RestoreFault)
    → (ensure a f >>= λ _. r >>= λ y. ensure b g >>= λ _. Ok (k y)) ≡ Err h → Failed a b r f g h
failed true true (Ok y) f g k h e = absurd cc
failed true false (Ok y) f g k h e = let is : g ≡ h = cc in subst (Failed true false (Ok y) f g) is (at_last y refl refl refl)
failed true b (Err i) f g k h e = let is : i ≡ h = cc in inside h refl (ap Err is)
failed false b r f g k h e = let is : f ≡ h = cc in subst (Failed false b r f g) is (at_first refl)

some_is : {A : Type 0} (o : Option A) (x : A) → o ≡ Some x → IsSome o
some_is o x e = subst IsSome (sym e) refl

module _ (memory : List Window) (n : ℕ) (r : Registers) (p : DevicePlace) where
  abbrev at_fields : DeviceFields → Result (List (ℕ × Event)) RestoreFault
  at_fields e = events_read memory n (itt_of (id_of p) (device_of_fields e))

  abbrev made_of : DeviceFields → List (ℕ × Event) → List Found
  made_of e evs = record { dev = id_of p; device = device_of_fields e; events = evs } ∷ []

  record Here (e : DeviceFields) (xs : List Found) : Type 0 where
    size : e.bits ≤ 16
    events : List (ℕ × Event)
    itt : events_read memory n (itt_of (id_of p) (device_of_fields e)) ≡ Ok events
    ends : ends_well r (index_of p) e.next ≡ true
    made : xs ≡ record { dev = id_of p; device = device_of_fields e; events = events } ∷ []

  here : (e : DeviceFields) (xs : List Found) → found_at memory n r p (Some e) ≡ Ok xs → Here e xs
  here e xs h =
      let w = went (nat_le e.bits 16) (ends_well r (index_of p) e.next) (at_fields e) (BadSize (record { 0 = id_of p })) (PastEnd Devices (id_of p) e.next)
      (made_of e) xs h in
      record { size = leb-true _ _ w.first; events = w.y; itt = w.inner; ends = w.last; made = w.made }

  -- ---- no offence

  clear_entry : (o : Option DeviceFields) (xs : List Found) → device_entry memory p ≡ o → IsSome (number_at memory (device_address r p))
      → found_at memory n r p o ≡ Ok xs → IsDeviceClear memory n r p
  clear_entry None xs is word h = record {
    inside = word;
    size = λ e f. absurd (let two : None ≡ Some e = sym is ∙ f in cc);
    itt = λ e f. absurd (let two : None ≡ Some e = sym is ∙ f in cc);
    ends = λ e f. absurd (let two : None ≡ Some e = sym is ∙ f in cc);
  }
  clear_entry (Some d) xs is word h =
      let w = here d xs h in
      let same : (e : DeviceFields) → device_entry memory p ≡ Some e → d ≡ e = λ e f. (let two : Some d ≡ Some e = sym is ∙ f in cc) in
      record {
        inside = word;
        size = λ e f. subst (λ (x : DeviceFields). x.bits ≤ 16) (same e f) w.size;
        itt = λ e f. subst (λ (x : DeviceFields). IsIttClear memory n (itt_of (id_of p) (device_of_fields x))) (same e f)
            (events_clear memory n (itt_of (id_of p) (device_of_fields d)) w.events (pow_pos d.bits) w.itt);
        ends = λ e f. subst (λ (x : DeviceFields). ends_well r (index_of p) x.next ≡ true) (same e f) w.ends;
      }

  clear_word : (f : RestoreFault) (o : Option ℕ) (xs : List Found) → number_at memory (device_address r p) ≡ o
      → (ok_or o f >>= λ _. found_at memory n r p (device_entry memory p)) ≡ Ok xs → IsDeviceClear memory n r p
  clear_word f None xs is h = absurd cc
  clear_word f (Some w) xs is h = clear_entry (device_entry memory p) xs refl (some_is _ w is) h

  pub place_clear : (xs : List Found) → look_device memory n r p ≡ Ok xs → IsDeviceClear memory n r p
  place_clear xs h = clear_word _ (number_at memory (device_address r p)) xs refl h

  -- ---- an offence

  fault_case : (e : DeviceFields) → device_entry memory p ≡ Some e → (f : RestoreFault)
      → Failed (nat_le e.bits 16) (ends_well r (index_of p) e.next) (at_fields e) (BadSize (record { 0 = id_of p })) (PastEnd Devices (id_of p) e.next) f
      → DeviceFaults memory n r p f
  fault_case e is _ (at_first full) = has_bad_size e is (leb-false _ _ full)
  fault_case e is _ (inside h room bad) = has_bad_itt e h is (leb-true _ _ room) (events_fault memory n (itt_of (id_of p) (device_of_fields e)) h bad)
  fault_case e is _ (at_last evs room good past) = leads_past e is (leb-true _ _ room) (events_clear memory n (itt_of (id_of p) (device_of_fields e)) evs
      (pow_pos e.bits) good) past

  fault_entry : (o : Option DeviceFields) (f : RestoreFault) → device_entry memory p ≡ o → found_at memory n r p o ≡ Err f → DeviceFaults memory n r p f
  fault_entry None f is h = absurd cc
  fault_entry (Some e) f is h =
      fault_case e is f (failed (nat_le e.bits 16) (ends_well r (index_of p) e.next) (at_fields e) (BadSize (record { 0 = id_of p }))
      (PastEnd Devices (id_of p) e.next) (made_of e) f h)

  fault_word : (o : Option ℕ) (f : RestoreFault) → number_at memory (device_address r p) ≡ o
      → (ok_or o (OutsideTable (record { 0 = device_address r p })) >>= λ _. found_at memory n r p (device_entry memory p)) ≡ Err f
      → DeviceFaults memory n r p f
  fault_word None f is h = let same : OutsideTable (record { 0 = device_address r p }) ≡ f = cc in subst (DeviceFaults memory n r p) same (is_outside is)
  fault_word (Some w) f is h = fault_entry (device_entry memory p) f refl h

  pub place_faults : (f : RestoreFault) → look_device memory n r p ≡ Err f → DeviceFaults memory n r p f
  place_faults f h = fault_word (number_at memory (device_address r p)) f refl h

  -- ---- the content

  -- what a place has is its device with the events of its table
  pub record Shows (x : Found) : Type 0 where
    pub dev : x.dev ≡ id_of p
    pub device : device_in memory p ≡ Some x.device
    pub some_bits : 0 < 2 ^ x.device.bits
    pub events : events_read memory n (itt_of x.dev x.device) ≡ Ok x.events

  shows_entry : (o : Option DeviceFields) (xs : List Found) (x : Found) → device_entry memory p ≡ o → found_at memory n r p o ≡ Ok xs → Among x xs → Shows x
  shows_entry None xs x is h a = let none : [] ≡ xs = cc in absurd (subst (Among x) (sym none) a)
  shows_entry (Some e) xs x is h a =
      let w = here e xs h in
      let one : Among x (record { dev = id_of p; device = device_of_fields e; events = w.events } ∷ []) = subst (Among x) w.made a in
      elim one [
        | inl same ↦ subst Shows (sym same) (record { dev = refl; device = ap (option_map device_of_fields) is; some_bits = pow_pos e.bits; events = w.itt })
        | inr no_more ↦ absurd no_more
      ]

  shows_word : (f : RestoreFault) (o : Option ℕ) (xs : List Found) (x : Found) → (ok_or o f >>= λ _. found_at memory n r p (device_entry memory p)) ≡ Ok xs
      → Among x xs → Shows x
  shows_word f None xs x h a = absurd cc
  shows_word f (Some w) xs x h a = shows_entry (device_entry memory p) xs x refl h a

  pub shows : (x : Found) → HasAt (look_device memory n r) p x → Shows x
  shows x h = shows_word _ (number_at memory (device_address r p)) h.0 x h.1 h.2

  -- a place with a device has it with its events
  pub record Has (d : Device) : Type 0 where
    pub x : Found
    pub at : HasAt (look_device memory n r) p x
    pub dev : x.dev ≡ id_of p
    pub device : x.device ≡ d

  has_entry : (o : Option DeviceFields) (d : Device) (xs : List Found) → look_device memory n r p ≡ Ok xs → found_at memory n r p o ≡ Ok xs
      → option_map device_of_fields o ≡ Some d → Has d
  has_entry None d xs looked h is = absurd cc
  has_entry (Some e) d xs looked h is =
      let w = here e xs h in
      let x : Found = record { dev = id_of p; device = device_of_fields e; events = w.events } in
      record { x = x; at = (xs, looked, subst (Among x) (sym w.made) (inl refl)); dev = refl; device = cc }

  has_word : (f : RestoreFault) (o : Option ℕ) (d : Device) (xs : List Found) → look_device memory n r p ≡ Ok xs
      → (ok_or o f >>= λ _. found_at memory n r p (device_entry memory p)) ≡ Ok xs → device_in memory p ≡ Some d → Has d
  has_word f None d xs looked h is = absurd cc
  has_word f (Some w) d xs looked h is = has_entry (device_entry memory p) d xs looked h is

  pub has : (d : Device) (xs : List Found) → look_device memory n r p ≡ Ok xs → device_in memory p ≡ Some d → Has d
  has d xs h is = has_word _ (number_at memory (device_address r p)) d xs h h is

-- ---- one device of each id

pub good_along : (memory : List Window) (r : Registers) → IsSmall r → (p : DevicePlace) (rs : List DevicePlace) (q : DevicePlace) → IsPlace r p
    → Path (next_device memory r) p rs q → IsPlace r q
good_along memory r small p [] q g a = subst (IsPlace r) a g
good_along memory r small p (t ∷ rs) q g a = good_along memory r small t rs q ((devices_rise memory r small).good p t g a.0) a.1

same_rank : (r : Registers) (k l : ℕ) (i j : ℕ) → (is_indirect r.baser0 ≡ false → k ≡ 0) → (is_indirect r.baser0 ≡ false → l ≡ 0) → i < page_places r
    → j < page_places r → device_id k i ≡ device_id l j → 8193 * k + 1 + i ≡ 8193 * l + 1 + j
same_rank r k l i j a b li lj e =
    elim (is_indirect r.baser0) as (λ c. is_indirect r.baser0 ≡ c → 8193 * k + 1 + i ≡ 8193 * l + 1 + j) [
      | true ↦ λ two. let m = page_of_two r two in omega arith
      | false ↦ λ flat. let ka = a flat in let lb = b flat in omega arith
    ] refl

rank_of_id : (memory : List Window) (r : Registers) (p q : DevicePlace) (d e : Device) → IsPlace r p → IsPlace r q → device_in memory p ≡ Some d
    → device_in memory q ≡ Some e → id_of p ≡ id_of q → rank p ≡ rank q
rank_of_id memory r (at_level1 k) q d e g h a b same = absurd cc
rank_of_id memory r (at_entry k page i) (at_level1 l) d e g h a b same = absurd cc
rank_of_id memory r (at_entry k page i) (at_entry l other j) d e g h a b same = same_rank r k l i j g.3 h.3 g.1 h.1 same

pub one_device : (memory : List Window) (r : Registers) → IsSmall r → IsPlace r (first_device r) → (p q : DevicePlace) (d e : Device)
    → Reached (next_device memory r) (first_device r) p → Reached (next_device memory r) (first_device r) q
    → device_in memory p ≡ Some d → device_in memory q ≡ Some e → id_of p ≡ id_of q → d ≡ e
one_device memory r small g p q d e rp rq a b same =
    let gp = good_along memory r small (first_device r) rp.0 p g rp.1 in
    let gq = good_along memory r small (first_device r) rq.0 q g rq.1 in
    let is : p ≡ q = reached_once (next_device memory r) rank (reach r) (IsPlace r) (devices_rise memory r small) (first_device r) rp.0 rq.0 p q g rp.1 rq.1
    (rank_of_id memory r p q d e gp gq a b same) in
    (let two : Some d ≡ Some e = sym a ∙ ap (device_in memory) is ∙ b in cc)
