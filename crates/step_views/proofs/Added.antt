-- By how many events a step grows the maps.
use Rattle.std.proofs.Common.{◌≡◌, ℕ, zero, suc, ◌+◌, ◌≤◌, ◌^◌, Bool, true, false, cond, not, ◌&&◌, ◌==◌, nat_lt, nat_le, List, [], ◌∷◌, length, filter, Option}
use Rattle.std.proofs.Common.{Some, None, is_some, Result, Ok, Err, refl, sym, ap, subst, ◌∙◌, arith}
use Rattle.std.specs.Prelude.{is_ok, slice_set, slice_index_or}
use Rattle.std.specs.Option.{ok_or}
use Rattle.std.specs.declared.cmp.Ordering.TheVariants.{Equal}
use Rattle.std.specs.FinMap.{FinMap, entries, get, insert, retain_keys, len, len-entries, len-insert, entries_sorted, get-entries, get-retain_keys}
use Rattle.std.specs.FinMap.Entries.{where_key, is_sorted-where_key, find-where_key, same_entries}
use Rattle.gits_regs.specs.Registers.{collection_places}
use Rattle.baser_place.specs.Places.{device_place}
use Rattle.its_command.specs.Commands.{decoded}
use Rattle.its_command.specs.declared.command.Command.{Command}
use Rattle.its_command.specs.declared.command.Command.TheVariants as command
use Rattle.its_types.proofs.PairOrder.{pair_total, pair_same}
use Rattle.its_types.specs.Ranges.{is_device_id, is_lpi}
use Rattle.its_types.specs.Lpis.{is_pending, with_lpis}
use Rattle.its_types.specs.Maps.{Maps, pair_cmp, device_of, event_of, collection_of, device_mapped, device_unmapped, event_mapped, event_unmapped}
use Rattle.its_types.specs.Maps.{is_pair, collection_mapped}
use Rattle.its_types.specs.Maps.{collection_unmapped}
use Rattle.its_types.specs.declared.ids.Vcpu.{Vcpu}
use Rattle.its_types.specs.declared.machine.Profile.{Profile}
use Rattle.its_types.specs.declared.machine.Profile.TheVariants.{One, Two}
use Rattle.its_types.specs.declared.translation.Device.{Device}
use Rattle.its_types.specs.declared.translation.Event.{Event}
use Rattle.its_plain.specs.Plain.{Plain, Translator, no_translator, regs_of, maps_of, pending_of, is_on, with_maps, with_pending}
use Rattle.its_plain.specs.Answer.{step_left, is_idle, next_bytes, met_left, command_left, went_on}
use Rattle.its_plain.specs.Commands.{◌>>=◌, ensure, lpi_set, lpi_cleared, lpi_moved, lpis_moved, all_moved, event_at, target_at, intids_of, mapd, unmapd}
use Rattle.its_plain.specs.Commands.{followed, followed_in, mapc, mapti, movi, lpi_at, int, clear, cleared_at, discard, inv, invall, movall, ran}
use Rattle.its_plain.specs.Commands.{with_event, reread}
use Rattle.its_plain.specs.declared.call.Reason.{Reason}
use Rattle.its_plain.specs.declared.call.Reason.TheVariants.{DeviceRange, SizeRange, TargetRange, CollectionRange, NoDevice, EventRange, IntidRange, LpisOff}
use Rattle.cmd_exec.specs.Room as room
use Rattle.plain_footprint.proofs.Chains.{ok_or_is, event_at_is}
use Rattle.step_views.specs.Counts.{event_count, maps_event, met_adds, step_adds, adds_event, growth}
use Rattle.step_views.specs.declared.counts.Addition.TheVariants.{NewEvent}
use Rattle.step_views.specs.Laws.{StepsAddOne}

-- ---- maps

abbrev Events : Type 0
Events = FinMap pair_cmp Event

retained : (m : Events) (p : ℕ × ℕ → Bool) → entries (retain_keys m p) ≡ where_key pair_cmp p (entries m)
retained m p =
    let alike : (q x : ℕ × ℕ) → pair_cmp q x ≡ Equal → p x ≡ p q = λ q x same. ap p (sym (pair_same q x same)) in
    same_entries pair_cmp pair_total pair_same (entries (retain_keys m p)) (where_key pair_cmp p (entries m)) (entries_sorted (retain_keys m p))
    (is_sorted-where_key pair_cmp p (entries m) (entries_sorted m)) (λ q.
    sym (get-entries (retain_keys m p) q) ∙ get-retain_keys m p q (alike q) ∙ ap (λ (o : Option Event). cond (p q) o None) (get-entries m q)
    ∙ sym (find-where_key pair_cmp p q (alike q) (entries m)))

fewer : {X : Type 0} (p : X → Bool) (xs : List X) → length (filter p xs) ≤ length xs
fewer p [] = omega arith
fewer p (x ∷ xs) =
    let rest : length (filter p xs) ≤ length xs = fewer p xs in
    elim (p x) as (λ b. length (cond b (x ∷ filter p xs) (filter p xs)) ≤ suc (length xs)) [ true ↦ omega (arith, rest) | false ↦ omega (arith, rest) ]

no_more : (m : Events) (p : ℕ × ℕ → Bool) → length (entries (retain_keys m p)) ≤ length (entries m)
no_more m p =
    subst (λ (es : List ((ℕ × ℕ) × Event)). length es ≤ length (entries m)) (sym (retained m p)) (fewer (λ e. p e.0) (entries m))

inserted : (m : Events) (k : ℕ × ℕ) (e : Event) → length (entries (insert m k e)) ≡ len (insert m k e)
inserted m k e = sym (len-entries (insert m k e))

one_more : (m : Events) (k : ℕ × ℕ) (e : Event) → length (entries (insert m k e)) ≤ length (entries m) + 1
one_more m k e =
    let long : length (entries (insert m k e)) ≡ cond (is_some (get m k)) (len m) (len m + 1) = inserted m k e ∙ len-insert pair_total m k e in
    let size : len m ≡ length (entries m) = len-entries m in
    subst (λ (n : ℕ). n ≤ length (entries m) + 1) (sym long)
    (elim (is_some (get m k)) as (λ b. cond b (len m) (len m + 1) ≤ length (entries m) + 1) [ true ↦ omega (arith, size) | false ↦ omega (arith, size) ])

replaced : (m : Events) (k : ℕ × ℕ) (e : Event) → is_some (get m k) ≡ true → length (entries (insert m k e)) ≤ length (entries m)
replaced m k e there =
    let long : length (entries (insert m k e)) ≡ len m =
    inserted m k e ∙ len-insert pair_total m k e ∙ ap (λ (b : Bool). cond b (len m) (len m + 1)) there in
    let size : len m ≡ length (entries m) = len-entries m in
    omega (arith, long, size)

-- ---- a translator that is replaced

at_set : {X : Type 0} (P : X → Type 0) (xs : List X) (i : ℕ) (x other : X) → P x → P (slice_index_or xs i other) → P (slice_index_or (slice_set xs i x) i other)
at_set P [] zero x other new old = old
at_set P [] (suc i) x other new old = old
at_set P (y ∷ ys) zero x other new old = new
at_set P (y ∷ ys) (suc i) x other new old = at_set P ys i x other new old

abbrev HasAtMost : ℕ → Translator → Type 0
HasAtMost n t = length (entries t.maps.events) ≤ n

module _ (i : ℕ) where
  maps_replaced : (n : ℕ) (u : Plain) (m : Maps) → length (entries m.events) ≤ n → event_count u i ≤ n → event_count (with_maps u i m) i ≤ n
  maps_replaced n u m new old = at_set (HasAtMost n) u.translators i (record { regs = regs_of u i; maps = m }) no_translator new old

  gone_on : (n : ℕ) (u : Plain) → event_count u i ≤ n → event_count (went_on i u) i ≤ n
  gone_on n u h = at_set (HasAtMost n) u.translators i _ no_translator h h

  -- the outcome has so many events at most
  abbrev Within : ℕ → Result Plain Reason → Type 0
  Within n (Ok w) = event_count w i ≤ n
  Within n (Err r) = Unit {0}

  within_from : {A : Type 0} (n : ℕ) (x : Result A Reason) (f : A → Result Plain Reason) → ((a : A) → x ≡ Ok a → Within n (f a)) → Within n (x >>= f)
  within_from n (Ok a) f h = h a refl
  within_from n (Err r) f h = tt

  more : (n k : ℕ) (r : Result Plain Reason) → Within n r → Within (n + k) r
  more n k (Ok w) h = omega (arith, h)
  more n k (Err r) h = tt

  -- ---- pending LPIs

  same_count : (u w : Plain) → w.translators ≡ u.translators → event_count w i ≡ event_count u i
  same_count u w same = ap (λ (ts : List Translator). length (entries (slice_index_or ts i no_translator).maps.events)) same

  one_or_other : (b : Bool) (u w x : Plain) → u.translators ≡ x.translators → w.translators ≡ x.translators → (cond b u w).translators ≡ x.translators
  one_or_other true u w x f g = f
  one_or_other false u w x f g = g

  moved_stays : (u : Plain) (x from to : ℕ) → (lpi_moved x from to u).translators ≡ u.translators
  moved_stays u x from to = one_or_other (is_pending x (pending_of u from)) (lpi_set x to (lpi_cleared x from u)) u u refl refl

  lpis_stay : (xs : List ℕ) (u : Plain) (from to : ℕ) → (lpis_moved xs from to u).translators ≡ u.translators
  lpis_stay [] u from to = refl
  lpis_stay (x ∷ xs) u from to = lpis_stay xs (lpi_moved x from to u) from to ∙ moved_stays u x from to

  all_stay : (u : Plain) (from to : ℕ) → (all_moved from to u).translators ≡ u.translators
  unfolding all_moved
  all_stay u from to =
      one_or_other (from == to) u (with_pending (with_pending u from []) to (with_lpis (pending_of u from) (pending_of u to))) u refl refl

  followed_stays : (u : Plain) (icid from to : ℕ) → (followed u i icid from to).translators ≡ u.translators
  followed_stays u icid from to =
      one_or_other (is_on u from && is_on u to) (lpis_moved (intids_of (maps_of u i) icid) from to u) u u
      (lpis_stay (intids_of (maps_of u i) icid) u from to) refl

  followed_in_stays : (profile : Profile) (u : Plain) (icid : ℕ) (before : Option Vcpu) (to : ℕ)
      → (followed_in profile u i icid before to).translators ≡ u.translators
  followed_in_stays One u icid before to = refl
  followed_in_stays Two u icid None to = refl
  followed_in_stays Two u icid (Some from) to = one_or_other (from.0 == to) u (followed u i icid from.0 to) u refl (followed_stays u icid from.0 to)

  cleared_stays : (u : Plain) (intid : ℕ) (o : Option Vcpu) → (cleared_at intid o u).translators ≡ u.translators
  cleared_stays u intid None = refl
  cleared_stays u intid (Some v) = refl

  -- ---- commands

  module _ (u : Plain) where
    abbrev n : ℕ
    n = event_count u i

    same : n ≤ n
    same = omega arith

    mapd_within : (dev bits itt : ℕ) → Within n (mapd u i dev bits itt)
    unfolding mapd
    mapd_within dev bits itt =
        within_from n (ensure (is_some (device_place (regs_of u i) u.memory dev)) DeviceRange) _ (λ _ _.
        within_from n (ensure (nat_le bits 16) SizeRange) _ (λ _ _.
        maps_replaced n u (device_mapped (maps_of u i) dev (record { itt = record { 0 = itt }; bits = bits }))
        (no_more (maps_of u i).events (λ k. not (k.0 == dev))) same))

    unmapd_within : (dev : ℕ) → Within n (unmapd u i dev)
    unfolding unmapd
    unmapd_within dev =
        within_from n (ensure (is_device_id u.layout.shape.dev_bits dev) DeviceRange) _ (λ _ _.
        maps_replaced n u (device_unmapped (maps_of u i) dev) (no_more (maps_of u i).events (λ k. not (k.0 == dev))) same)

    mapc_within : (icid target : ℕ) → Within n (mapc u i icid target)
    unfolding mapc
    mapc_within icid target =
        within_from n (ensure (nat_lt target u.layout.shape.vcpus) TargetRange) _ (λ _ _.
        within_from n (ensure (nat_lt icid (collection_places (regs_of u i))) CollectionRange) _ (λ _ _.
        let w : Plain = followed_in u.layout.shape.profile u i icid (collection_of (maps_of u i) icid) target in
        let count : event_count w i ≡ n =
        same_count u w (followed_in_stays u.layout.shape.profile u icid (collection_of (maps_of u i) icid) target) in
        let few : event_count w i ≤ n = omega (arith, count) in
        maps_replaced n w (collection_mapped (maps_of w i) icid (record { 0 = target })) few few))

    movi_within : (dev ev icid : ℕ) → Within n (movi u i dev ev icid)
    unfolding movi
    movi_within dev ev icid =
        within_from n (event_at (maps_of u i) dev ev) _ (λ event at.
        within_from n (target_at (maps_of u i) event.icid.0) _ (λ from _.
        within_from n (target_at (maps_of u i) icid) _ (λ to _.
        within_from n (ensure (is_on u from.0 && is_on u to.0) LpisOff) _ (λ _ _.
        let given : Event = record event { icid = record { 0 = icid } } in
        let w : Plain = with_maps u i (event_mapped (maps_of u i) dev ev given) in
        let few : event_count w i ≤ n =
        maps_replaced n u (event_mapped (maps_of u i) dev ev given)
        (replaced (maps_of u i).events (dev, ev) given (ap is_some (event_at_is (maps_of u i) dev ev event at))) same in
        let count : event_count (lpi_moved event.intid.0 from.0 to.0 w) i ≡ event_count w i =
        same_count w (lpi_moved event.intid.0 from.0 to.0 w) (moved_stays w event.intid.0 from.0 to.0) in
        omega (arith, few, count)))))

    int_within : (dev ev : ℕ) → Within n (int u i dev ev)
    unfolding int
    int_within dev ev = within_from n (lpi_at u i dev ev) _ (λ _ _. same)

    clear_within : (dev ev : ℕ) → Within n (clear u i dev ev)
    unfolding clear
    clear_within dev ev = within_from n (lpi_at u i dev ev) _ (λ _ _. same)

    discard_within : (dev ev : ℕ) → Within n (discard u i dev ev)
    unfolding discard
    discard_within dev ev =
        within_from n (event_at (maps_of u i) dev ev) _ (λ event _.
        let w : Plain = with_maps u i (event_unmapped (maps_of u i) dev ev) in
        let few : event_count w i ≤ n =
        maps_replaced n u (event_unmapped (maps_of u i) dev ev) (no_more (maps_of u i).events (λ k. not (is_pair dev ev k))) same in
        let o : Option Vcpu = collection_of (maps_of u i) event.icid.0 in
        let count : event_count (cleared_at event.intid.0 o w) i ≡ event_count w i =
        same_count w (cleared_at event.intid.0 o w) (cleared_stays w event.intid.0 o) in
        omega (arith, few, count))

    inv_within : (dev ev : ℕ) → Within n (inv u i dev ev)
    unfolding inv
    inv_within dev ev = within_from n (event_at (maps_of u i) dev ev) _ (λ _ _. same)

    invall_within : (icid : ℕ) → Within n (invall u i icid)
    unfolding invall
    invall_within icid = within_from n (target_at (maps_of u i) icid) _ (λ _ _. same)

    movall_within : (from to : ℕ) → Within n (movall u from to)
    unfolding movall
    movall_within from to =
        within_from n (ensure (nat_lt from u.layout.shape.vcpus && nat_lt to u.layout.shape.vcpus) TargetRange) _ (λ _ _.
        within_from n (ensure (is_on u from && is_on u to) LpisOff) _ (λ _ _.
        let count : event_count (all_moved from to u) i ≡ n = same_count u (all_moved from to u) (all_stay u from to) in
        omega (arith, count)))

    -- a new event is one more
    new_within : (dev ev : ℕ) (event : Event) (device : Device) → device_of (maps_of u i) dev ≡ Some device
        → event_count (with_event u i dev ev event) i ≤ n + growth (room.adds_event (maps_of u i) dev ev)
    new_within dev ev event device mapped =
        let m : Maps = maps_of u i in
        let w : Plain = with_maps u i (event_mapped m dev ev event) in
        let grown : room.adds_event m dev ev ≡ not (is_some (event_of m dev ev)) =
        ap (λ (o : Option Device). is_some o && not (is_some (event_of m dev ev))) mapped in
        let one : event_count w i ≤ n + 1 =
        maps_replaced (n + 1) u (event_mapped m dev ev event) (one_more m.events (dev, ev) event) (omega arith) in
        subst (λ (b : Bool). event_count (with_event u i dev ev event) i ≤ n + growth b) (sym grown)
        (elim (is_some (event_of m dev ev)) as (λ b. event_count (cond b u (reread (event.intid.0 ∷ []) w)) i ≤ n + growth (not b)) [
          | true ↦ omega arith
          | false ↦ one
        ])

    mapti_within : (dev ev intid icid : ℕ) → Within (n + growth (room.adds_event (maps_of u i) dev ev)) (mapti u i dev ev intid icid)
    unfolding mapti
    mapti_within dev ev intid icid =
        let k : ℕ = n + growth (room.adds_event (maps_of u i) dev ev) in
        within_from k (ok_or (device_of (maps_of u i) dev) NoDevice) _ (λ device mapped.
        within_from k (ensure (nat_lt ev (2 ^ device.bits)) EventRange) _ (λ _ _.
        within_from k (ensure (is_lpi u.layout.shape.lpi_bits intid) IntidRange) _ (λ _ _.
        within_from k (ensure (nat_lt icid (collection_places (regs_of u i))) CollectionRange) _ (λ _ _.
        new_within dev ev (record { intid = record { 0 = intid }; icid = record { 0 = icid } }) device
        (ok_or_is (device_of (maps_of u i) dev) NoDevice device mapped)))))

    ran_within : (c : Command) → Within (n + growth (maps_event (maps_of u i) c)) (ran u i c)
    unfolding ran maps_event
    ran_within (command.Mapd dev bits itt true) = more n 0 (mapd u i dev.0 bits itt) (mapd_within dev.0 bits itt)
    ran_within (command.Mapd dev bits itt false) = more n 0 (unmapd u i dev.0) (unmapd_within dev.0)
    ran_within (command.Mapc icid target true) = more n 0 (mapc u i icid.0 target) (mapc_within icid.0 target)
    ran_within (command.Mapc icid target false) =
        more n 0 (Ok (with_maps u i (collection_unmapped (maps_of u i) icid.0)))
        (maps_replaced n u (collection_unmapped (maps_of u i) icid.0) same same)
    ran_within (command.Mapti dev ev intid icid) = mapti_within dev.0 ev.0 intid.0 icid.0
    ran_within (command.Mapi dev ev icid) = mapti_within dev.0 ev.0 ev.0 icid.0
    ran_within (command.Movi dev ev icid) = more n 0 (movi u i dev.0 ev.0 icid.0) (movi_within dev.0 ev.0 icid.0)
    ran_within (command.Int dev ev) = more n 0 (int u i dev.0 ev.0) (int_within dev.0 ev.0)
    ran_within (command.Clear dev ev) = more n 0 (clear u i dev.0 ev.0) (clear_within dev.0 ev.0)
    ran_within (command.Sync target) = omega arith
    ran_within (command.Inv dev ev) = more n 0 (inv u i dev.0 ev.0) (inv_within dev.0 ev.0)
    ran_within (command.Invall icid) = more n 0 (invall u i icid.0) (invall_within icid.0)
    ran_within (command.Movall from to) = more n 0 (movall u from to) (movall_within from to)
    ran_within (command.Discard dev ev) = more n 0 (discard u i dev.0 ev.0) (discard_within dev.0 ev.0)
    ran_within (command.Unknown opcode) = tt

    -- ---- steps

    left_within : (r : Result Plain Reason) (new : Bool) → Within (n + growth new) r
        → event_count (went_on i (command_left u r)) i ≤ n + growth (is_ok r && new)
    left_within (Ok w) new h = gone_on (n + growth new) w h
    left_within (Err e) new h = gone_on (n + 0) u (omega arith)

    met_within : (o : Option (List ℕ)) → event_count (met_left u i o) i ≤ n + growth (met_adds NewEvent u i o)
    met_within None = omega arith
    met_within (Some bytes) = left_within (ran u i (decoded bytes)) (maps_event (maps_of u i) (decoded bytes)) (ran_within (decoded bytes))

    step_within : event_count (step_left u i) i ≤ n + growth (adds_event u i)
    unfolding step_left step_adds
    step_within =
        elim (is_idle u i) as (λ b. event_count (cond b u (met_left u i (next_bytes u i))) i ≤ n + growth (not b && met_adds NewEvent u i (next_bytes u i))) [
          | true ↦ omega arith
          | false ↦ met_within (next_bytes u i)
        ]

pub steps_add : StepsAddOne
steps_add u i = step_within i u
