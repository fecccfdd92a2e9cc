-- What the calls keep of the counts.
use Rattle.std.proofs.Common.{◌≡◌, ℕ, ◌+◌, ◌-◌, ◌^◌, ◌<◌, ◌≤◌, ◌==◌, Bool, true, false, cond, List, [], ◌∷◌, length, Some, None, Option, IfSome}
use Rattle.std.proofs.Common.{is_some, ◌||◌, refl, sym, ap, ◌∙◌, subst, arith}
use mathlib.Core.Bool.{false≢true}
use Rattle.std.specs.Prelude.{nat_lt}
use Rattle.std.specs.List.{sum_by, list_any}
use Rattle.std.specs.Ordering.{nat_cmp}
use Rattle.std.specs.FinMap as finmap
use Rattle.std.specs.FinMap.{FinMap}
use Rattle.std.proofs.lemmas.Bool.{ltb-true}
use Rattle.std.proofs.lemmas.List.Sums.{sum_by-append, sum_by-cons}
use Rattle.its_types.specs.declared.ids.Icid.{Icid}
use Rattle.its_types.specs.declared.ids.Vcpu.{Vcpu}
use Rattle.its_types.specs.declared.translation.Device.{Device}
use Rattle.its_types.specs.declared.translation.Event.{Event}
use Rattle.its_maps.specs.declared.device_record.DeviceRecord.{DeviceRecord}
use Rattle.its_maps.specs.declared.counts.Counts.{Counts}
use Rattle.its_maps.specs.MapRoom.{without}
use Rattle.its_maps.specs.View.{keyed, all_events, events_in, devices_in, shown}
use Rattle.its_maps.specs.Counting.{total, of_option, one, is_named, naming, over_events, over_all, named, IsTally, AreCounted, has_events}
use Rattle.its_maps.proofs.Totals.{total_none, total_insert, total_without, total_least, any_sum, sum_map, sum_ones}
use Rattle.its_maps.proofs.Values.{entries-values_by}
use Rattle.its_maps.proofs.Events.{entries-events_in}

one_at_most : (n icid : ℕ) → is_named n icid ≤ 1
one_at_most n icid = at (n == icid)
  where
    at : (t : Bool) → cond t 1 0 ≤ 1
    at true = omega arith
    at false = omega arith

pub some_or : {X : Type 0} (o : Option X) (b : Bool) → (o ≡ None → b ≡ true) → (is_some o || b) ≡ true
some_or None b h = h refl
some_or (Some x) b h = refl

module _ (c : Counts) (m : FinMap nat_cmp DeviceRecord) (are : AreCounted c m) where
  -- no collection is named more often than there are events
  pub named_fits : (n : ℕ) → n < 65536 → named c.tally n < 2 ^ 64 - 1
  named_fits n lt =
      let most = total_least (over_events (naming n)) (over_events one) (λ d. total_least (naming n) one (λ e. one_at_most e.icid.0 n) d.events.map) m in
      omega (arith, are.named n lt, are.events, are.below, most)

  module _ (dev : ℕ) (old : DeviceRecord) (here : Some old ≡ finmap.get m dev) where
    pub device_counted : 1 ≤ c.devices
    device_counted =
        let parts = total_without {X = DeviceRecord} one m dev in
        let is = ap (of_option {X = DeviceRecord} one) here in
        omega (arith, parts, is, are.devices)

    pub device_within : (f : Event → ℕ) → over_events f old ≤ over_all f m
    device_within f = let parts = total_without (over_events f) m dev in let is = ap (of_option (over_events f)) here in omega (arith, parts, is)

    pub event_within : (f : Event → ℕ) (ev : ℕ) (before : Option Event) → before ≡ finmap.get old.events.map ev → of_option f before ≤ over_all f m
    event_within f ev before is =
        let parts = total_without f old.events.map ev in
        let same = ap (of_option f) is in
        let all = device_within f in
        omega (arith, parts, same, all)

    pub some_counted : (ev : ℕ) (before : Option Event) → before ≡ finmap.get old.events.map ev → of_option one before ≤ c.events
    some_counted ev before is = let within = event_within one ev before is in omega (arith, within, are.events)

    pub some_named : (ev : ℕ) (before : Option Event) → before ≡ finmap.get old.events.map ev → (n : ℕ) → n < 65536 → of_option (naming n) before
        ≤ named c.tally n
    some_named ev before is n lt = let within = event_within (naming n) ev before is in omega (arith, within, are.named n lt)

    -- another record of the device
    module _ (r : DeviceRecord) where
      all_with : (f : Event → ℕ) → over_all f (finmap.insert m dev r) + over_events f old ≡ over_all f m + over_events f r
      all_with f = ap (λ o. over_all f (finmap.insert m dev r) + of_option (over_events f) o) here ∙ total_insert (over_events f) m dev r

      same_devices : total one (finmap.insert m dev r) ≡ total one m
      same_devices =
          let parts = total_insert {X = DeviceRecord} one m dev r in
          let is = ap (of_option {X = DeviceRecord} one) here in
          omega (arith, parts, is)

      pub after_entry : (n : Counts) (ev : ℕ) (event : Event) (before : Option Event) → before ≡ finmap.get old.events.map ev
          → r.events.map ≡ finmap.insert old.events.map ev event → n.devices ≡ c.devices → n.events + of_option one before ≡ c.events + 1
          → n.events < 2 ^ 64 - 1 → IsTally n.tally
          → ((k : ℕ) → k < 65536 → named n.tally k + of_option (naming k) before ≡ named c.tally k + is_named event.icid.0 k)
          → AreCounted n (finmap.insert m dev r)
      after_entry n ev event before was is devices events below table names = record {
        devices = devices ∙ are.devices ∙ sym same_devices;
        events = let parts = changed one in omega (arith, parts, all_with one, events, are.events);
        below = below;
        table = table;
        named = λ k lt. let parts = changed (naming k) in omega (arith, parts, all_with (naming k), names k lt, are.named k lt);
      }
        where
          changed : (f : Event → ℕ) → over_events f r + of_option f before ≡ over_events f old + f event
          changed f = ap (λ e. total f e + of_option f before) is ∙ ap (λ o. total f (finmap.insert old.events.map ev event) + of_option f o) was
              ∙ total_insert f old.events.map ev event

      pub after_moving : (n : Counts) (ev : ℕ) (icid : Icid) (before : Option Event) → before ≡ finmap.get old.events.map ev
          → is_some before ≡ true → IfSome (finmap.get old.events.map ev) (λ e. r.events.map ≡ finmap.insert old.events.map ev (record e { icid = icid }))
          → n.devices ≡ c.devices → n.events + of_option one before ≡ c.events + 1 → n.events < 2 ^ 64 - 1 → IsTally n.tally
          → ((k : ℕ) → k < 65536 → named n.tally k + of_option (naming k) before ≡ named c.tally k + is_named icid.0 k)
          → AreCounted n (finmap.insert m dev r)
      after_moving n ev icid None was some is devices events below table names = absurd (false≢true some)
      after_moving n ev icid (Some e) was some is devices events below table names =
          after_entry n ev (record e { icid = icid }) (Some e) was
          (subst (λ o. IfSome o (λ x. r.events.map ≡ finmap.insert old.events.map ev (record x { icid = icid }))) (sym was) is) devices events below table names

      pub after_leaving : (n : Counts) (ev : ℕ) (before : Option Event) → before ≡ finmap.get old.events.map ev → r.events.map ≡ without old.events.map ev
          → n.devices ≡ c.devices → n.events + of_option one before ≡ c.events → IsTally n.tally
          → ((k : ℕ) → k < 65536 → named n.tally k + of_option (naming k) before ≡ named c.tally k) → AreCounted n (finmap.insert m dev r)
      after_leaving n ev before was is devices events table names = record {
        devices = devices ∙ are.devices ∙ sym same_devices;
        events = let parts = changed one in omega (arith, parts, all_with one, events, are.events);
        below = omega (arith, events, are.below);
        table = table;
        named = λ k lt. let parts = changed (naming k) in omega (arith, parts, all_with (naming k), names k lt, are.named k lt);
      }
        where
          changed : (f : Event → ℕ) → over_events f r + of_option f before ≡ over_events f old
          changed f = ap (λ e. total f e + of_option f before) is ∙ ap (λ o. total f (without old.events.map ev) + of_option f o) was
              ∙ total_without f old.events.map ev

      pub after_making : (n : Counts) → r.events.map ≡ old.events.map → n.devices ≡ c.devices → n.events ≡ c.events → IsTally n.tally
          → ((k : ℕ) → k < 65536 → named n.tally k ≡ named c.tally k) → AreCounted n (finmap.insert m dev r)
      after_making n is devices events table names = record {
        devices = devices ∙ are.devices ∙ sym same_devices;
        events = let same = ap (total {X = Event} one) is in omega (arith, same, all_with one, events, are.events);
        below = omega (arith, events, are.below);
        table = table;
        named = λ k lt. let same = ap (total (naming k)) is in omega (arith, same, all_with (naming k), names k lt, are.named k lt);
      }

  -- without a device
  module _ (dev : ℕ) (here : Option DeviceRecord) (is : here ≡ finmap.get m dev) where
    without_all : (f : Event → ℕ) → over_all f (without m dev) + of_option (over_events f) here ≡ over_all f m
    without_all f = ap (λ o. over_all f (without m dev) + of_option (over_events f) o) is ∙ total_without (over_events f) m dev

    pub after_drop : (n : Counts) → n.devices + of_option one here ≡ c.devices → n.events + of_option (over_events one) here ≡ c.events → IsTally n.tally
        → ((k : ℕ) → k < 65536 → named n.tally k + of_option (over_events (naming k)) here ≡ named c.tally k) → AreCounted n (without m dev)
    after_drop n devices events table names = record {
      devices =
          let parts = ap (λ o. total one (without m dev) + of_option {X = DeviceRecord} one o) is ∙ total_without one m dev in
          omega (arith, parts, devices, are.devices);
      events = omega (arith, without_all one, events, are.events);
      below = omega (arith, events, are.below);
      table = table;
      named = λ k lt. omega (arith, without_all (naming k), names k lt, are.named k lt);
    }

-- one device more can be counted
pub device_fits : (c n : Counts) (m : FinMap nat_cmp DeviceRecord) (dev : ℕ) (o : Option DeviceRecord) → o ≡ finmap.get m dev → AreCounted c m
    → AreCounted n (without m dev) → c.devices < 2 ^ 32 → (o ≡ None → nat_lt c.devices (2 ^ 32 - 1) ≡ true) → n.devices < 2 ^ 32 - 1
device_fits c n m dev o is are without_it below room = at o (ap (λ p. total one (without m dev) + of_option {X = DeviceRecord} one p) is
    ∙ total_without one m dev) room
  where
    at : (p : Option DeviceRecord) → total one (without m dev) + of_option {X = DeviceRecord} one p ≡ total one m
        → (p ≡ None → nat_lt c.devices (2 ^ 32 - 1) ≡ true) → n.devices < 2 ^ 32 - 1
    at None parts fits = let less = ltb-true c.devices (2 ^ 32 - 1) (fits refl) in omega (arith, parts, less, are.devices, without_it.devices)
    at (Some d) parts fits = omega (arith, parts, below, are.devices, without_it.devices)

-- a device without events comes
pub after_device : (c n : Counts) (m : FinMap nat_cmp DeviceRecord) (dev : ℕ) (r : DeviceRecord) → AreCounted c (without m dev) → r.events.map ≡ finmap.empty
    → n ≡ record c { devices = c.devices + 1 } → AreCounted n (finmap.insert m dev r)
after_device c n m dev r are none is = subst (λ d. AreCounted d (finmap.insert m dev r)) (sym is) (record {
  devices = let parts = with_it one in omega (arith, parts, are.devices);
  events = let parts = with_it (over_events one) in omega (arith, parts, no_events one, are.events);
  below = are.below;
  table = are.table;
  named = λ k lt. let parts = with_it (over_events (naming k)) in omega (arith, parts, no_events (naming k), are.named k lt);
})
  where
    with_it : (f : DeviceRecord → ℕ) → total f (finmap.insert m dev r) ≡ total f (without m dev) + f r
    with_it f = let put = total_insert f m dev r in let rest = total_without f m dev in omega (arith, put, rest)

    no_events : (f : Event → ℕ) → over_events f r ≡ 0
    no_events f = ap (total f) none ∙ total_none f

pub none_counted : (c : Counts) → c.devices ≡ 0 → c.events ≡ 0 → IsTally c.tally → ((k : ℕ) → named c.tally k ≡ 0) → AreCounted c finmap.empty
none_counted c devices events table names = record {
  devices = devices ∙ sym (total_none {X = DeviceRecord} one);
  events = events ∙ sym (total_none (over_events one));
  below = omega (arith, events);
  table = table;
  named = λ k lt. names k ∙ sym (total_none (over_events (naming k)));
}

-- ---- what is shown

over_list : (f : Event → ℕ) (es : List (ℕ × DeviceRecord)) → sum_by (λ e. f e.1) (all_events es) ≡ sum_by (λ d. over_events f d.1) es
over_list f [] = refl
over_list f (d ∷ es) =
    let here = sum_map (λ (e : (ℕ × ℕ) × Event). f e.1) (λ (e : ℕ × Event). ((d.0, e.0), e.1)) (finmap.entries d.1.events.map) in
    let parts = sum_by-append (λ (e : (ℕ × ℕ) × Event). f e.1) (keyed d.0 (finmap.entries d.1.events.map)) (all_events es) in
    let rest = over_list f es in
    let cons = sum_by-cons (λ (e : ℕ × DeviceRecord). over_events f e.1) d es in
    omega (arith, here, parts, rest, cons)

module _ (c : Counts) (m : FinMap nat_cmp DeviceRecord) (v : FinMap nat_cmp Vcpu) (are : AreCounted c m) where
  pub devices_counted : c.devices ≡ length (finmap.entries (devices_in m))
  devices_counted =
      are.devices
      ∙ sym (ap length (entries-values_by (λ d. d.device) m) ∙ sum_ones _ ∙ sum_map {B = ℕ × Device} one (λ (e : ℕ × DeviceRecord). (e.0, e.1.device))
      (finmap.entries m))

  pub events_counted : c.events ≡ length (finmap.entries (events_in m))
  events_counted = are.events ∙ sym (ap length (entries-events_in m) ∙ sum_ones _ ∙ over_list one (finmap.entries m))

  pub names_shown : (icid : ℕ) → icid < 65536 → nat_lt 0 (named c.tally icid) ≡ has_events (shown m v) icid
  names_shown icid lt =
      ap (nat_lt 0) (are.named icid lt)
      ∙ sym (ap (list_any (λ (e : (ℕ × ℕ) × Event). e.1.icid.0 == icid)) (entries-events_in m)
      ∙ any_sum (λ (e : (ℕ × ℕ) × Event). e.1.icid.0 == icid) (all_events (finmap.entries m))
      ∙ ap (nat_lt 0) (over_list (naming icid) (finmap.entries m)))
