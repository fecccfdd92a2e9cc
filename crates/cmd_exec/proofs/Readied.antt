-- A command that isn't refused has an effect that can be had on the parts of a sound state.
use Rattle.std.proofs.Common.{◌≡◌, ℕ, ◌^◌, ◌<◌, Bool, true, false, ◌&&◌, not, cond, eqb, nat_lt, nat_le, List, [], ◌∷◌, map, filter, Option, Some, None}
use Rattle.std.proofs.Common.{Result, Ok, Err, IfOk, refl, sym, ap, subst, ◌∙◌}
use Rattle.std.specs.Prelude.{is_some, IfSome}
use Rattle.std.specs.List.{AllByRecursion}
use Rattle.std.specs.Ordering.{is_lt, is_eq, eq_by_cmp}
use Rattle.std.specs.declared.cmp.Ordering.{Ordering}
use Rattle.std.specs.declared.cmp.Ordering.TheVariants.{Less, Equal, Greater}
use Rattle.std.specs.Cmp.{tied_itself}
use Rattle.std.specs.FinMap.{find, entries, is_sorted, entries_sorted, get-entries}
use Rattle.std.specs.FinMap.Entries.{below_all}
use Rattle.std.proofs.lemmas.Bool.{ltb-true, and_parts, cond-false, cond_both, eqb-true}
use lib.Dec.{T}
use Rattle.baser_place.specs.Places.{device_place}
use Rattle.gits_regs.specs.Registers.{Registers, collection_places}
use Rattle.guest_windows.specs.Windows.{Window}
use Rattle.its_command.specs.declared.command.Command.{Command}
use Rattle.its_command.specs.declared.command.Command.TheVariants as command
use Rattle.its_types.specs.Ranges.{is_device_id, is_lpi}
use Rattle.its_types.specs.Maps.{Maps, pair_cmp, device_of, event_of, collection_of}
use Rattle.its_types.specs.declared.ids.DeviceId.{DeviceId}
use Rattle.its_types.specs.declared.ids.EventId.{EventId}
use Rattle.its_types.specs.declared.ids.Icid.{Icid}
use Rattle.its_types.specs.declared.ids.Intid.{Intid}
use Rattle.its_types.specs.declared.ids.Vcpu.{Vcpu}
use Rattle.its_types.specs.declared.machine.Profile.{Profile}
use Rattle.its_types.specs.declared.machine.Profile.TheVariants.{One, Two}
use Rattle.its_types.specs.declared.machine.Shape.{Shape}
use Rattle.its_types.specs.declared.translation.Event.{Event}
use Rattle.its_maps.specs.MapsRoom.{MapsRoom}
use Rattle.its_types.proofs.Rising.{first, second}
use Rattle.its_types.proofs.PairOrder.{pair_total, pair_tied}
use Rattle.its_plain.specs.Parts.{target_of_event}
use Rattle.its_plain.specs.Commands.{◌>>=◌, event_at, intids_of}
use Rattle.its_plain.specs.declared.call.Reason.{Reason}
use Rattle.its_plain.specs.declared.call.Reason.TheVariants.{DeviceRange, SizeRange, TargetRange, CollectionRange, NoDevice, EventRange, IntidRange}
use Rattle.its_plain.specs.declared.call.Reason.TheVariants.{NoCollection, LpisOff}
use Rattle.lpi_config.specs.Conf.{Conf}
use Rattle.lpi_pending.specs.InHand.{RedistParts, conf_in, pend_in}
use Rattle.lpi_pending.specs.Pend.{Pend}
use Rattle.cmd_exec.specs.declared.effect.Effect.{Effect}
use Rattle.cmd_exec.specs.declared.effect.Effect.TheVariants as effect
use Rattle.cmd_exec.specs.InHand.{is_on_in, has_lpi, takes_lpi, CanRereadAll}
use Rattle.cmd_exec.specs.Effects as parts
use Rattle.cmd_exec.specs.Effects.{targeted, moved, added}
use Rattle.cmd_exec.specs.Needs.{AreNeededInHand}
use Rattle.cmd_exec.specs.Ready.{IsReady, IsTargetInHand, AreBothInHand, AreTargetsInHand, TakesAll, TakesIfMapped, HaveSameLpis, HeldCanReread, CanEachReread}
use Rattle.cmd_exec.specs.Room.{effect_adds, room_for, HasRoom}
use Rattle.cmd_exec.proofs.Steps.{passed, found, ran, event_is, target_is}
use Rattle.cmd_exec.proofs.Lifted.{held_by}
use Rattle.cmd_exec.proofs.Targets.{movi_old, movi_new, int_target, clear_target, discard_target, mapc_targets, movall_targets, mapti_each, mapi_each}
use Rattle.cmd_exec.proofs.Targets.{inv_each, invall_each}
use Rattle.cmd_exec.proofs.Workable.{IsWorkable}

-- ---- what holds of each event holds of each entry

not_eq : (o : Ordering) → T (is_lt o) → is_eq o ≡ false
not_eq Less t = refl
not_eq Equal t = absurd t
not_eq Greater t = absurd t

abbrev Entries : Type 0
Entries = List ((ℕ × ℕ) × Event)

none_below : (x : ℕ × ℕ) (xs : Entries) → T (below_all pair_cmp x xs) → find pair_cmp x xs ≡ None
none_below x [] t = refl
none_below x (y ∷ ys) t =
    cond-false (eq_by_cmp pair_cmp x y.0) (Some y.1) (find pair_cmp x ys) (not_eq (pair_cmp x y.0) (first _ _ t)) ∙ none_below x ys (second _ _ t)

-- a key found among later ones isn't the first
later_found : (q : ℕ × ℕ) (x : (ℕ × ℕ) × Event) (xs : Entries) (e : Event) → T (below_all pair_cmp x.0 xs) → find pair_cmp q xs ≡ Some e
    → find pair_cmp q (x ∷ xs) ≡ Some e
later_found q x xs e t is =
    cond_both (eq_by_cmp pair_cmp q x.0) (Some x.1) (find pair_cmp q xs) (λ (o : Option Event). o ≡ Some e)
    (λ tied.
    let same = and_parts (eqb q.0 x.0.0) (eqb q.1 x.0.1) (sym (pair_tied q x.0) ∙ tied) in
    let key : q ≡ x.0 = ap (λ (a : ℕ). (a, q.1)) (eqb-true q.0 x.0.0 same.0) ∙ ap (λ (b : ℕ). (x.0.0, b)) (eqb-true q.1 x.0.1 same.1) in
    let none : find pair_cmp q xs ≡ None = ap (λ (k : ℕ × ℕ). find pair_cmp k xs) key ∙ none_below x.0 xs t in
    absurd (not_some (find pair_cmp q xs) e none is))
    (λ _. is)
  where
    not_some : (o : Option Event) (e : Event) → o ≡ None → o ≡ Some e → ⊥
    not_some o e a b = cc

each_event : (P : Event → Type 0) (xs : Entries) → T (is_sorted pair_cmp xs) → ((q : ℕ × ℕ) (e : Event) → find pair_cmp q xs ≡ Some e → P e)
    → AllByRecursion (λ x. P x.1) xs
each_event P [] t h = tt
each_event P (x ∷ xs) t h = (
  h x.0 x.1 (ap (λ (o : Ordering). cond (is_eq o) (Some x.1) (find pair_cmp x.0 xs)) (tied_itself pair_total x.0)),
  each_event P xs (second _ _ t) (λ q e is. h q e (later_found q x xs e (first _ _ t) is)),
)

each_picked : (P : ℕ → Type 0) (icid : ℕ) (xs : Entries) → AllByRecursion (λ x. P x.1.intid.0) xs
    → AllByRecursion P (map (λ x. x.1.intid.0) (filter (λ x. eqb x.1.icid.0 icid) xs))
each_picked P icid [] h = tt
each_picked P icid (x ∷ xs) h = by_test (each_picked P icid xs h.1) (eqb x.1.icid.0 icid)
  where
    by_test : AllByRecursion P (map (λ (y : (ℕ × ℕ) × Event). y.1.intid.0) (filter (λ (y : (ℕ × ℕ) × Event). eqb y.1.icid.0 icid) xs)) → (b : Bool)
        → AllByRecursion P (map (λ (y : (ℕ × ℕ) × Event). y.1.intid.0) (cond b (x ∷ filter (λ (y : (ℕ × ℕ) × Event). eqb y.1.icid.0 icid) xs)
        (filter (λ (y : (ℕ × ℕ) × Event). eqb y.1.icid.0 icid) xs)))
    by_test rest true = (h.0, rest)
    by_test rest false = rest

module _ (s : Shape) (mr : MapsRoom) (rs : RedistParts) (can : IsWorkable s mr.maps rs) where
  abbrev m : Maps
  m = mr.maps

  abbrev IsLpi : ℕ → Type 0
  IsLpi x = is_lpi s.lpi_bits x ≡ true

  lpis_of_collection : (icid : ℕ) → AllByRecursion IsLpi (intids_of m icid)
  lpis_of_collection icid =
      each_picked IsLpi icid (entries m.events) (each_event (λ e. IsLpi e.intid.0) (entries m.events) (entries_sorted m.events)
      (λ q e is. can.events q.0 q.1 e (get-entries m.events q ∙ is)))

  -- ---- parts in hand

  takes : (v x : ℕ) → is_some (pend_in rs v) ≡ true → IsLpi x → takes_lpi rs v x ≡ true
  takes v x held lpi =
      let p = held_by (pend_in rs v) held in
      ap (has_lpi x) p.1 ∙ ap (λ (n : ℕ). is_lpi n x) (can.pends v p.0 p.1) ∙ lpi

  takes_all : (v : ℕ) (xs : List ℕ) → is_some (pend_in rs v) ≡ true → AllByRecursion IsLpi xs → TakesAll rs v xs
  takes_all v [] held lpis = tt
  takes_all v (x ∷ xs) held lpis = (takes v x held lpis.0, takes_all v xs held lpis.1)

  takes_target : (o : Option Vcpu) (x : ℕ) → IsTargetInHand rs o → IsLpi x → TakesIfMapped rs o x
  takes_target None x held lpi = tt
  takes_target (Some v) x held lpi = takes v.0 x held lpi

  can_all : (v : ℕ) (c : Conf) (xs : List ℕ) → conf_in rs v ≡ Some c → AllByRecursion IsLpi xs → CanRereadAll c xs
  can_all v c [] is lpis = tt
  can_all v c (x ∷ xs) is lpis = (record { lpi = ap (λ (n : ℕ). is_lpi n x) (can.confs v c is) ∙ lpis.0; low = can.low v c is }, can_all v c xs is lpis.1)

  can_each : (xs : List ℕ) → ((v : ℕ) → v < s.vcpus → is_some (conf_in rs v) ≡ true) → AllByRecursion IsLpi xs → CanEachReread s.vcpus rs xs
  can_each xs held lpis = λ v lt.
      let c = held_by (conf_in rs v) (held v lt) in
      subst (λ (o : Option Conf). HeldCanReread o xs) (sym c.1) (can_all v c.0 xs c.1 lpis)

  -- ---- commands

  -- where the maps have the room that the effect needs
  abbrev CanBeHad : Effect → Type 0
  CanBeHad e = HasRoom mr e → IsReady s mr rs e

  abbrev Readies : Result Effect Reason → Type 0
  Readies x = IfOk x CanBeHad

  not_there : {A : Type 0} (o : Option A) → o ≡ None → not (is_some o) ≡ true
  not_there None e = refl
  not_there (Some x) e = absurd cc

  mapd_ready : (r : Registers) (memory : List Window) (dev : DeviceId) (bits itt : ℕ) → Readies (parts.mapd r memory dev bits itt)
  unfolding parts.mapd IsReady effect_adds room_for
  mapd_ready r memory dev bits itt =
      passed CanBeHad (is_some (device_place r memory dev.0)) DeviceRange _ (λ _.
      passed CanBeHad (nat_le bits 16) SizeRange _ (λ _ room none. room (not_there (device_of m dev.0) none)))

  unmapd_ready : (dev : DeviceId) → Readies (parts.unmapd s dev)
  unfolding parts.unmapd IsReady
  unmapd_ready dev = passed CanBeHad (is_device_id s.dev_bits dev.0) DeviceRange _ (λ _ _. tt)

  targeted_ready : (p : Profile) (icid : Icid) (o : Option Vcpu) (to : Vcpu) → collection_of m icid.0 ≡ o → AreTargetsInHand rs p o to.0
      → CanBeHad (targeted p rs icid o to)
  unfolding IsReady effect_adds room_for
  targeted_ready p icid o to is held = by_profile p o is held
    where
      mapped : (now : Vcpu) → CanBeHad (effect.MapCollection icid now)
      mapped now room none = room (not_there (collection_of m icid.0) none)

      some_there : (v : Vcpu) (q : Option Vcpu) → q ≡ Some v → q ≡ None → ⊥
      some_there v q a b = cc

      by_on : (from : Vcpu) → collection_of m icid.0 ≡ Some from → (b : Bool) → (b ≡ true → is_on_in rs to.0 ≡ true)
          → (is_some (pend_in rs from.0) ≡ true) × (is_some (pend_in rs to.0) ≡ true)
          → CanBeHad (cond b (effect.MoveCollection icid from to) (effect.MapCollection icid to))
      by_on from there true on h = λ _. (
        (λ none. absurd (some_there from (collection_of m icid.0) there none)),
        can.devices,
        takes_all from.0 (intids_of m icid.0) h.0 (lpis_of_collection icid.0),
        takes_all to.0 (intids_of m icid.0) h.1 (lpis_of_collection icid.0),
        on refl,
      )
      by_on from there false on h = mapped to

      by_same : (from : Vcpu) → collection_of m icid.0 ≡ Some from → (t : Bool)
          → (t ≡ false → (is_some (pend_in rs from.0) ≡ true) × (is_some (pend_in rs to.0) ≡ true))
          → CanBeHad (cond t (effect.MapCollection icid to) (moved rs icid from to))
      by_same from there true g = mapped to
      by_same from there false g =
          by_on from there (is_on_in rs from.0 && is_on_in rs to.0) (λ both. (and_parts (is_on_in rs from.0) (is_on_in rs to.0) both).1) (g refl)

      by_profile : (q : Profile) (o' : Option Vcpu) → collection_of m icid.0 ≡ o' → AreTargetsInHand rs q o' to.0 → CanBeHad (targeted q rs icid o' to)
      by_profile One o' there h = mapped to
      by_profile Two None there h = mapped to
      by_profile Two (Some from) there h = by_same from there (eqb from.0 to.0) h

  mapc_ready : (r : Registers) (icid : Icid) (target : ℕ)
      → (target < s.vcpus → AreTargetsInHand rs s.profile (collection_of m icid.0) target) → Readies (parts.mapc s r m rs icid target)
  unfolding parts.mapc
  mapc_ready r icid target held =
      passed CanBeHad (nat_lt target s.vcpus) TargetRange _ (λ below.
      passed CanBeHad (nat_lt icid.0 (collection_places r)) CollectionRange _ (λ _.
      targeted_ready s.profile icid (collection_of m icid.0) (record { 0 = target }) refl (held (ltb-true target s.vcpus below))))

  added_ready : (dev : DeviceId) (ev : EventId) (event : Event) → is_some (device_of m dev.0) ≡ true → CanEachReread s.vcpus rs (event.intid.0 ∷ [])
      → CanBeHad (added m dev ev event)
  unfolding IsReady effect_adds room_for
  added_ready dev ev event mapped each =
      cond_both (is_some (event_of m dev.0 ev.0)) effect.Nothing (effect.MapEvent dev ev event) CanBeHad (λ _ _. tt)
      (λ _ room. (mapped, (λ none. room (ap (λ (b : Bool). b && not (is_some (event_of m dev.0 ev.0))) mapped ∙ not_there (event_of m dev.0 ev.0) none)), each))

  mapti_ready : (r : Registers) (dev : DeviceId) (ev : EventId) (intid : Intid) (icid : Icid)
      → ((v : ℕ) → v < s.vcpus → is_some (conf_in rs v) ≡ true) → Readies (parts.mapti s r m dev ev intid icid)
  unfolding parts.mapti
  mapti_ready r dev ev intid icid held =
      found CanBeHad (device_of m dev.0) NoDevice _ (λ device is.
      passed CanBeHad (nat_lt ev.0 (2 ^ device.bits)) EventRange _ (λ _.
      passed CanBeHad (is_lpi s.lpi_bits intid.0) IntidRange _ (λ lpi.
      passed CanBeHad (nat_lt icid.0 (collection_places r)) CollectionRange _ (λ _.
      added_ready dev ev (record { intid = intid; icid = icid }) (ap is_some is) (can_each (intid.0 ∷ []) held (lpi, tt))))))

  movi_ready : (dev : DeviceId) (ev : EventId) (icid : Icid) → IsTargetInHand rs (target_of_event m dev.0 ev.0) → IsTargetInHand rs (collection_of m icid.0)
      → Readies (parts.movi m rs dev ev icid)
  unfolding parts.movi IsReady
  movi_ready dev ev icid old new =
      ran CanBeHad (event_at m dev.0 ev.0) _ (λ event at.
      found CanBeHad (collection_of m event.icid.0) NoCollection _ (λ from is_from.
      found CanBeHad (collection_of m icid.0) NoCollection _ (λ to is_to.
      passed CanBeHad (is_on_in rs from.0 && is_on_in rs to.0) LpisOff _ (λ on _.
      let is = event_is m dev.0 ev.0 event at in
      let lpi = can.events dev.0 ev.0 event is in (
        subst (λ (o : Option Event). IfSome o (λ e. e.intid ≡ event.intid)) (sym is) refl,
        ap is_some is,
        takes from.0 event.intid.0 (subst (IsTargetInHand rs) (target_is m dev.0 ev.0 event at ∙ is_from) old) lpi,
        takes to.0 event.intid.0 (subst (IsTargetInHand rs) is_to new) lpi,
        (and_parts (is_on_in rs from.0) (is_on_in rs to.0) on).1,
      )))))

  -- LPIs are on where it goes, and it is one of them
  abbrev CanBeSet : Intid × Vcpu → Type 0
  CanBeSet lpi = (takes_lpi rs lpi.1.0 lpi.0.0 ≡ true) × (is_on_in rs lpi.1.0 ≡ true)

  lpi_ready : (dev : DeviceId) (ev : EventId) → IsTargetInHand rs (target_of_event m dev.0 ev.0) → IfOk (parts.lpi_at m rs dev ev) CanBeSet
  unfolding parts.lpi_at
  lpi_ready dev ev target =
      ran CanBeSet (event_at m dev.0 ev.0) _ (λ event at.
      found CanBeSet (collection_of m event.icid.0) NoCollection _ (λ vcpu is.
      passed CanBeSet (is_on_in rs vcpu.0) LpisOff _ (λ on. (
        takes vcpu.0 event.intid.0 (subst (IsTargetInHand rs) (target_is m dev.0 ev.0 event at ∙ is) target)
            (can.events dev.0 ev.0 event (event_is m dev.0 ev.0 event at)),
        on,
      ))))

  with_lpi : (x : Result (Intid × Vcpu) Reason) (f : Intid × Vcpu → Effect) → IfOk x CanBeSet → ((lpi : Intid × Vcpu) → CanBeSet lpi → IsReady s mr rs (f lpi))
      → Readies (x >>= λ lpi. Ok (f lpi))
  with_lpi (Ok lpi) f h g = λ _. g lpi h
  with_lpi (Err e) f h g = tt

  int_ready : (dev : DeviceId) (ev : EventId) → IsTargetInHand rs (target_of_event m dev.0 ev.0) → Readies (parts.int m rs dev ev)
  unfolding parts.int IsReady
  int_ready dev ev target = with_lpi (parts.lpi_at m rs dev ev) (λ (lpi : Intid × Vcpu). effect.SetLpi lpi.0 lpi.1) (lpi_ready dev ev target) (λ lpi h. h)

  clear_ready : (dev : DeviceId) (ev : EventId) → IsTargetInHand rs (target_of_event m dev.0 ev.0) → Readies (parts.clear m rs dev ev)
  unfolding parts.clear IsReady
  clear_ready dev ev target = with_lpi (parts.lpi_at m rs dev ev) (λ (lpi : Intid × Vcpu). effect.ClearLpi lpi.0 lpi.1) (lpi_ready dev ev target) (λ lpi h. h.0)

  discard_ready : (dev : DeviceId) (ev : EventId) → IsTargetInHand rs (target_of_event m dev.0 ev.0) → Readies (parts.discard m dev ev)
  unfolding parts.discard IsReady
  discard_ready dev ev target =
      ran CanBeHad (event_at m dev.0 ev.0) _ (λ event at _.
      takes_target (collection_of m event.icid.0) event.intid.0 (subst (IsTargetInHand rs) (target_is m dev.0 ev.0 event at) target)
      (can.events dev.0 ev.0 event (event_is m dev.0 ev.0 event at)))

  inv_ready : (dev : DeviceId) (ev : EventId) → ((v : ℕ) → v < s.vcpus → is_some (conf_in rs v) ≡ true) → Readies (parts.inv m dev ev)
  unfolding parts.inv IsReady
  inv_ready dev ev held =
      ran CanBeHad (event_at m dev.0 ev.0) _
      (λ event at _. can_each (event.intid.0 ∷ []) held (can.events dev.0 ev.0 event (event_is m dev.0 ev.0 event at), tt))

  invall_ready : (icid : Icid) → ((v : ℕ) → v < s.vcpus → is_some (conf_in rs v) ≡ true) → Readies (parts.invall m icid)
  unfolding parts.invall IsReady
  invall_ready icid held =
      found CanBeHad (collection_of m icid.0) NoCollection _ (λ _ _ _. (can.devices, can_each (intids_of m icid.0) held (lpis_of_collection icid.0)))

  same_lpis : (a b : Option Pend) (x y : Pend) → a ≡ Some x → b ≡ Some y → x.pending.lpi_bits ≡ y.pending.lpi_bits → HaveSameLpis a b
  same_lpis a b x y ax bx same = subst (λ (o : Option Pend). HaveSameLpis o b) (sym ax) (subst (HaveSameLpis (Some x)) (sym bx) same)

  movall_ready : (from to : ℕ) → (from < s.vcpus → to < s.vcpus → AreBothInHand rs from to) → Readies (parts.movall s rs from to)
  unfolding parts.movall IsReady
  movall_ready from to h =
      passed CanBeHad (nat_lt from s.vcpus && nat_lt to s.vcpus) TargetRange _ (λ below.
      passed CanBeHad (is_on_in rs from && is_on_in rs to) LpisOff _ (λ on _.
      let both = and_parts (nat_lt from s.vcpus) (nat_lt to s.vcpus) below in
      let lt = ltb-true from s.vcpus both.0 in
      let held = h lt (ltb-true to s.vcpus both.1) in
      let x = held_by (pend_in rs from) held.0 in
      let y = held_by (pend_in rs to) held.1 in (
        same_lpis (pend_in rs from) (pend_in rs to) x.0 y.0 x.1 y.1 (can.pends from x.0 x.1 ∙ sym (can.pends to y.0 y.1)),
        (and_parts (is_on_in rs from) (is_on_in rs to) on).1,
      )))

  -- ---- all commands

  pub planned_ready : (r : Registers) (memory : List Window) (c : Command) → AreNeededInHand s m c rs → Readies (parts.planned s r mr.maps memory rs c)
  unfolding parts.planned IsReady
  planned_ready r memory (command.Movi dev ev icid) h = movi_ready dev ev icid (movi_old s m rs dev ev icid h) (movi_new s m rs dev ev icid h)
  planned_ready r memory (command.Int dev ev) h = int_ready dev ev (int_target s m rs dev ev h)
  planned_ready r memory (command.Clear dev ev) h = clear_ready dev ev (clear_target s m rs dev ev h)
  planned_ready r memory (command.Sync target) h = λ _. tt
  planned_ready r memory (command.Mapd dev bits itt true) h = mapd_ready r memory dev bits itt
  planned_ready r memory (command.Mapd dev bits itt false) h = unmapd_ready dev
  planned_ready r memory (command.Mapc icid target true) h = mapc_ready r icid target (mapc_targets s m rs icid target h)
  planned_ready r memory (command.Mapc icid target false) h = λ _. tt
  planned_ready r memory (command.Mapti dev ev intid icid) h = mapti_ready r dev ev intid icid (mapti_each s m rs dev ev intid icid h)
  planned_ready r memory (command.Mapi dev ev icid) h = mapti_ready r dev ev (record { 0 = ev.0 }) icid (mapi_each s m rs dev ev icid h)
  planned_ready r memory (command.Inv dev ev) h = inv_ready dev ev (inv_each s m rs dev ev h)
  planned_ready r memory (command.Invall icid) h = invall_ready icid (invall_each s m rs icid h)
  planned_ready r memory (command.Movall from to) h = movall_ready from to (movall_targets s m rs from to h)
  planned_ready r memory (command.Discard dev ev) h = discard_ready dev ev (discard_target s m rs dev ev h)
  planned_ready r memory (command.Unknown opcode) h = tt
