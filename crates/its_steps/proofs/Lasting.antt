-- What each command leaves of where messages go.
use Rattle.std.proofs.Common.{◌≡◌, ℕ, Bool, true, false, ◌&&◌, nat_lt, nat_le, eqb, ◌^◌, List, [], ◌∷◌, is_some}
use Rattle.std.proofs.Common.{Result, Ok, Err, refl, ap, sym, ◌∙◌, subst, if◌then◌else◌, get_or-set_same, get_or-set_other}
use Rattle.std.specs.Option.{ok_or}
use Rattle.std.proofs.lemmas.Bool.{and_parts, cond_both}
use Rattle.gits_regs.specs.Registers.{collection_places, advanced}
use Rattle.baser_place.specs.Places.{device_place}
use Rattle.its_command.specs.declared.command.Command.{Command}
use Rattle.its_command.specs.declared.command.Command.TheVariants as command
use Rattle.its_types.specs.Ranges.{is_device_id, is_lpi}
use Rattle.its_types.specs.Lpis.{with_lpi, with_lpis, without_lpi}
use Rattle.its_types.specs.Maps.{Maps, device_of, event_of, collection_of, device_mapped, device_unmapped, event_mapped, event_unmapped, collection_mapped}
use Rattle.its_types.specs.Maps.{collection_unmapped}
use Rattle.its_types.specs.declared.ids.Target.{Target}
use Rattle.its_types.specs.declared.translation.Event.{Event}
use Rattle.its_plain.specs.Plain.{Plain, Translator, translator, redistributor, no_translator, regs_of, maps_of, pending_of}
use Rattle.its_plain.specs.Plain.{is_on, with_translator, with_maps, with_pending}
use Rattle.its_plain.specs.Translation.{located}
use Rattle.its_plain.specs.Commands.{◌>>=◌, ensure, lpi_set, lpi_cleared, lpi_moved, all_moved, reread, event_at, target_at, intids_of, mapd}
use Rattle.its_plain.specs.Commands.{unmapd, followed_in, mapc, unmapc, mapti, movi, lpi_at, int, clear, cleared_at, discard, inv, invall, movall}
use Rattle.its_plain.specs.Commands.{ran}
use Rattle.its_plain.specs.declared.call.Reason.{Reason}
use Rattle.its_plain.specs.declared.call.Reason.TheVariants.{DeviceRange, SizeRange, TargetRange, CollectionRange, NoDevice, EventRange, IntidRange, LpisOff}
use Rattle.plain_soundness.proofs.States.{enabled_within}
use Rattle.plain_footprint.specs.Commands.{AreLpisKept}
use Rattle.plain_footprint.proofs.Kept.{moved_kept, cleared_at_kept, followed_in_kept}
use Rattle.its_steps.specs.Endings.{Ending, Nothing, Pair, All, ending_in, Ends, Lasts}
use Rattle.its_steps.proofs.Leaving.{Leaves, all_left, leaves_if, one_redist}
use Rattle.its_steps.proofs.Routes.{Route, route_of, located_by, with_device, without_device, with_other_event, with_event, without_event, with_collection}
use Rattle.its_steps.proofs.Routes.{without_collection}

-- ---- pending LPIs and configurations: no map changes

leaves_then : (a b z : Plain) → Leaves a b → Leaves b z → Leaves a z
leaves_then a b z p q = record { maps = λ i. p.maps i ∙ q.maps i }

pending_left : (a : Plain) (v : ℕ) (xs : List ℕ) → Leaves a (with_pending a v xs)
pending_left a v xs = one_redist a v (record (redistributor a v) { pending = xs })

-- what is done to pending sets and configurations
lpis_leave : (a : Plain) → AreLpisKept (Leaves a)
unfolding all_moved
lpis_leave a = record {
  set = λ b x v on k. leaves_then a b (lpi_set x v b) k (pending_left b v (with_lpi x (pending_of b v)));
  cleared = λ b x v k. leaves_then a b (lpi_cleared x v b) k (pending_left b v (without_lpi x (pending_of b v)));
  all_moved = λ b from to on k.
      let once : Plain = with_pending b from [] in
      let all : List ℕ = with_lpis (pending_of b from) (pending_of b to) in
      leaves_if a b (with_pending once to all) (eqb from to) k
      (leaves_then a b (with_pending once to all) k (leaves_then b once (with_pending once to all) (pending_left b from []) (pending_left once to all)));
  reread = λ b intids k. leaves_then a b (reread intids b) k (record { maps = λ i. refl });
}

-- ---- what lasts

pub lasts_self : (u : Plain) (i : ℕ) (e : Ending) → Lasts u u i e
lasts_self u i e = record { own = λ dev ev t n l. l; others = λ j ne. refl }

pub lasts_then : (u w z : Plain) (i : ℕ) (e : Ending) → Lasts u w i e → Leaves w z → Lasts u z i e
lasts_then u w z i e l k = record {
  own = λ dev ev t n loc. subst (λ (x : Translator). located x dev ev ≡ Ok t) (k.maps i) (l.own dev ev t n loc);
  others = λ j ne. l.others j ne ∙ k.maps j;
}

-- the translator is another one, by which the routes lead as before
pub lasts_translator : (u w : Plain) (i : ℕ) (e : Ending) (x : Translator) → Lasts u w i e
    → ((dev ev : ℕ) (t : Target) → ¬ Ends e dev ev → Route (translator w i).regs.enabled (translator w i).maps dev ev t → Route x.regs.enabled x.maps dev ev t)
    → Lasts u (with_translator w i x) i e
lasts_translator u w i e x l f = record {
  own = λ dev ev t n loc.
      let r = route_of (translator w i) dev ev t (l.own dev ev t n loc) in
      subst (λ (y : Translator). located y dev ev ≡ Ok t) (sym (get_or-set_same w.translators i x no_translator (enabled_within w i r.on)))
      (located_by x dev ev t (f dev ev t n r));
  others = λ j ne. l.others j ne ∙ sym (get_or-set_other w.translators i j x no_translator ne);
}

lasts_maps : (u w : Plain) (i : ℕ) (e : Ending) (m : Maps) → Lasts u w i e
    → ((dev ev : ℕ) (t : Target) → ¬ Ends e dev ev → Route (translator w i).regs.enabled (maps_of w i) dev ev t
    → Route (translator w i).regs.enabled m dev ev t) → Lasts u (with_maps w i m) i e
lasts_maps u w i e m l f = lasts_translator u w i e (record (translator w i) { maps = m }) l f

pub lasts_advanced : (u w : Plain) (i : ℕ) (e : Ending) → Lasts u w i e
    → Lasts u (with_translator w i (record (translator w i) { regs = advanced (regs_of w i) })) i e
lasts_advanced u w i e l = lasts_translator u w i e (record (translator w i) { regs = advanced (regs_of w i) }) l
    (λ dev ev t n r. record {
      on = r.on;
      device = r.device;
      device_is = r.device_is;
      event = r.event;
      event_is = r.event_is;
      vcpu = r.vcpu;
      vcpu_is = r.vcpu_is;
      target_is = r.target_is;
    })

-- where a test decides whether all may end
unless_all : (b : Bool) (dev ev : ℕ) (P : Type 0) → (b ≡ false → P) → ¬ Ends (if b then All else Nothing) dev ev → P
unless_all true dev ev P f n = absurd (n tt)
unless_all false dev ev P f n = f refl

-- ---- commands

abbrev pub LastsOk : Plain → ℕ → Ending → Result Plain Reason → Type 0
LastsOk u i e (Ok w) = Lasts u w i e
LastsOk u i e (Err r) = Unit {0}

ok_then : {A : Type 0} (u : Plain) (i : ℕ) (e : Ending) (x : Result A Reason) (f : A → Result Plain Reason) → ((a : A) → LastsOk u i e (f a))
    → LastsOk u i e (x >>= f)
ok_then u i e (Ok a) f h = h a
ok_then u i e (Err r) f h = tt

passed_then : (u : Plain) (i : ℕ) (e : Ending) (test : Bool) (reason : Reason) (f : Unit {0} → Result Plain Reason) → (test ≡ true → LastsOk u i e (f tt))
    → LastsOk u i e (ensure test reason >>= f)
passed_then u i e true reason f h = h refl
passed_then u i e false reason f h = tt

module _ (u : Plain) (i : ℕ) where
  abbrev m : Maps
  m = maps_of u i

  movi_lasts : (dev ev icid : ℕ) → LastsOk u i (Pair dev ev) (movi u i dev ev icid)
  unfolding movi
  movi_lasts dev ev icid =
      let e : Ending = Pair dev ev in
      ok_then u i e (event_at m dev ev) _ (λ event.
      ok_then u i e (target_at m event.icid.0) _ (λ from.
      ok_then u i e (target_at m icid) _ (λ to.
      passed_then u i e (is_on u from.0 && is_on u to.0) LpisOff _ (λ on.
      let x : Event = record event { icid = record { 0 = icid } } in
      let w : Plain = with_maps u i (event_mapped m dev ev x) in
      lasts_then u w (lpi_moved event.intid.0 from.0 to.0 w) i e
      (lasts_maps u u i e (event_mapped m dev ev x) (lasts_self u i e) (λ d v t n r. with_other_event (translator u i).regs.enabled m d v t r dev ev x n))
      (moved_kept (Leaves w) (lpis_leave w) w event.intid.0 from.0 to.0 (and_parts (is_on u from.0) (is_on u to.0) on).1 (all_left w))))))

  discard_lasts : (dev ev : ℕ) → LastsOk u i (Pair dev ev) (discard u i dev ev)
  unfolding discard
  discard_lasts dev ev =
      let e : Ending = Pair dev ev in
      ok_then u i e (event_at m dev ev) _ (λ event.
      let w : Plain = with_maps u i (event_unmapped m dev ev) in
      lasts_then u w (cleared_at event.intid.0 (collection_of m event.icid.0) w) i e
      (lasts_maps u u i e (event_unmapped m dev ev) (lasts_self u i e) (λ d v t n r. without_event (translator u i).regs.enabled m d v t r dev ev n))
      (cleared_at_kept (Leaves w) (lpis_leave w) w event.intid.0 (collection_of m event.icid.0) (all_left w)))

  int_lasts : (dev ev : ℕ) → LastsOk u i Nothing (int u i dev ev)
  unfolding int
  int_lasts dev ev = ok_then u i Nothing (lpi_at u i dev ev) _ (λ lpi. lasts_then u u (lpi_set lpi.0.0 lpi.1.0 u) i Nothing (lasts_self u i Nothing)
      (pending_left u lpi.1.0 (with_lpi lpi.0.0 (pending_of u lpi.1.0))))

  clear_lasts : (dev ev : ℕ) → LastsOk u i Nothing (clear u i dev ev)
  unfolding clear
  clear_lasts dev ev = ok_then u i Nothing (lpi_at u i dev ev) _ (λ lpi. lasts_then u u (lpi_cleared lpi.0.0 lpi.1.0 u) i Nothing (lasts_self u i Nothing)
      (pending_left u lpi.1.0 (without_lpi lpi.0.0 (pending_of u lpi.1.0))))

  inv_lasts : (dev ev : ℕ) → LastsOk u i Nothing (inv u i dev ev)
  unfolding inv
  inv_lasts dev ev = ok_then u i Nothing (event_at m dev ev) _ (λ event. lasts_then u u (reread (event.intid.0 ∷ []) u) i Nothing (lasts_self u i Nothing)
      ((lpis_leave u).reread u (event.intid.0 ∷ []) (all_left u)))

  invall_lasts : (icid : ℕ) → LastsOk u i Nothing (invall u i icid)
  unfolding invall
  invall_lasts icid = ok_then u i Nothing (target_at m icid) _ (λ _. lasts_then u u (reread (intids_of m icid) u) i Nothing (lasts_self u i Nothing)
      ((lpis_leave u).reread u (intids_of m icid) (all_left u)))

  movall_lasts : (from to : ℕ) → LastsOk u i Nothing (movall u from to)
  unfolding movall
  movall_lasts from to =
      ok_then u i Nothing (ensure (nat_lt from u.layout.shape.vcpus && nat_lt to u.layout.shape.vcpus) TargetRange) _ (λ _.
      passed_then u i Nothing (is_on u from && is_on u to) LpisOff _ (λ on. lasts_then u u (all_moved from to u) i Nothing (lasts_self u i Nothing)
      ((lpis_leave u).all_moved u from to (and_parts (is_on u from) (is_on u to) on).1 (all_left u))))

  mapti_lasts : (dev ev intid icid : ℕ) → LastsOk u i Nothing (mapti u i dev ev intid icid)
  unfolding mapti
  mapti_lasts dev ev intid icid =
      let x : Event = record { intid = record { 0 = intid }; icid = record { 0 = icid } } in
      let w : Plain = with_maps u i (event_mapped m dev ev x) in
      ok_then u i Nothing (ok_or (device_of m dev) NoDevice) _ (λ device.
      ok_then u i Nothing (ensure (nat_lt ev (2 ^ device.bits)) EventRange) _ (λ _.
      ok_then u i Nothing (ensure (is_lpi u.layout.shape.lpi_bits intid) IntidRange) _ (λ _.
      ok_then u i Nothing (ensure (nat_lt icid (collection_places (regs_of u i))) CollectionRange) _ (λ _.
      cond_both (is_some (event_of m dev ev)) u (reread (intid ∷ []) w) (λ (z : Plain). Lasts u z i Nothing) (λ _. lasts_self u i Nothing)
      (λ none. lasts_then u w (reread (intid ∷ []) w) i Nothing
      (lasts_maps u u i Nothing (event_mapped m dev ev x) (lasts_self u i Nothing)
      (λ d v t n r. with_event (translator u i).regs.enabled m d v t r dev ev x none)) ((lpis_leave w).reread w (intid ∷ []) (all_left w)))))))

  -- ---- devices and collections

  mapd_lasts : (dev bits itt : ℕ) → LastsOk u i (if is_some (device_of m dev) then All else Nothing) (mapd u i dev bits itt)
  unfolding mapd
  mapd_lasts dev bits itt =
      let e : Ending = (if is_some (device_of m dev) then All else Nothing) in
      ok_then u i e (ensure (is_some (device_place (regs_of u i) u.memory dev)) DeviceRange) _ (λ _.
      ok_then u i e (ensure (nat_le bits 16) SizeRange) _ (λ _.
      lasts_maps u u i e (device_mapped m dev (record { itt = record { 0 = itt }; bits = bits })) (lasts_self u i e)
      (λ d v t n r. unless_all (is_some (device_of m dev)) d v
      (Route (translator u i).regs.enabled (device_mapped m dev (record { itt = record { 0 = itt }; bits = bits })) d v t)
      (λ none. with_device (translator u i).regs.enabled m d v t r dev (record { itt = record { 0 = itt }; bits = bits }) none) n)))

  unmapd_lasts : (dev : ℕ) → LastsOk u i (if is_some (device_of m dev) then All else Nothing) (unmapd u i dev)
  unfolding unmapd
  unmapd_lasts dev =
      let e : Ending = (if is_some (device_of m dev) then All else Nothing) in
      ok_then u i e (ensure (is_device_id u.layout.shape.dev_bits dev) DeviceRange) _ (λ _.
      lasts_maps u u i e (device_unmapped m dev) (lasts_self u i e)
      (λ d v t n r. unless_all (is_some (device_of m dev)) d v (Route (translator u i).regs.enabled (device_unmapped m dev) d v t)
      (λ none. without_device (translator u i).regs.enabled m d v t r dev none) n))

  mapc_lasts : (icid target : ℕ) → LastsOk u i (if is_some (collection_of m icid) then All else Nothing) (mapc u i icid target)
  unfolding mapc
  mapc_lasts icid target =
      let e : Ending = (if is_some (collection_of m icid) then All else Nothing) in
      ok_then u i e (ensure (nat_lt target u.layout.shape.vcpus) TargetRange) _ (λ _.
      ok_then u i e (ensure (nat_lt icid (collection_places (regs_of u i))) CollectionRange) _ (λ _.
      let w : Plain = followed_in u.layout.shape.profile u i icid (collection_of m icid) target in
      let k : Leaves u w = followed_in_kept (Leaves u) (lpis_leave u) u.layout.shape.profile u i icid (collection_of m icid) target (all_left u) in
      let same : maps_of w i ≡ m = ap (λ (t : Translator). t.maps) (sym (k.maps i)) in
      lasts_maps u w i e (collection_mapped (maps_of w i) icid (record { 0 = target })) (lasts_then u u w i e (lasts_self u i e) k)
      (λ d v t n r. unless_all (is_some (collection_of m icid)) d v
      (Route (translator w i).regs.enabled (collection_mapped (maps_of w i) icid (record { 0 = target })) d v t)
      (λ none. with_collection (translator w i).regs.enabled (maps_of w i) d v t r icid (record { 0 = target })
      (ap (λ (x : Maps). is_some (collection_of x icid)) same ∙ none)) n)))

  unmapc_lasts : (icid : ℕ) → Lasts u (unmapc u i icid) i (if is_some (collection_of m icid) then All else Nothing)
  unmapc_lasts icid =
      let e : Ending = (if is_some (collection_of m icid) then All else Nothing) in
      lasts_maps u u i e (collection_unmapped m icid) (lasts_self u i e)
      (λ d v t n r. unless_all (is_some (collection_of m icid)) d v (Route (translator u i).regs.enabled (collection_unmapped m icid) d v t)
      (λ none. without_collection (translator u i).regs.enabled m d v t r icid none) n)

  either : (valid : Bool) (e : Ending) (a b : Result Plain Reason) → LastsOk u i e a → LastsOk u i e b → LastsOk u i e (if valid then a else b)
  either true e a b p q = p
  either false e a b p q = q

  pub ran_lasts : (c : Command) → LastsOk u i (ending_in m c) (ran u i c)
  unfolding ran
  ran_lasts (command.Movi dev ev icid) = movi_lasts dev.0 ev.0 icid.0
  ran_lasts (command.Int dev ev) = int_lasts dev.0 ev.0
  ran_lasts (command.Clear dev ev) = clear_lasts dev.0 ev.0
  ran_lasts (command.Sync target) = lasts_self u i Nothing
  ran_lasts (command.Mapd dev bits itt valid) = either valid (if is_some (device_of m dev.0) then All else Nothing) (mapd u i dev.0 bits itt) (unmapd u i dev.0)
      (mapd_lasts dev.0 bits itt) (unmapd_lasts dev.0)
  ran_lasts (command.Mapc icid target valid) = either valid (if is_some (collection_of m icid.0) then All else Nothing) (mapc u i icid.0 target)
      (Ok (unmapc u i icid.0)) (mapc_lasts icid.0 target) (unmapc_lasts icid.0)
  ran_lasts (command.Mapti dev ev intid icid) = mapti_lasts dev.0 ev.0 intid.0 icid.0
  ran_lasts (command.Mapi dev ev icid) = mapti_lasts dev.0 ev.0 ev.0 icid.0
  ran_lasts (command.Inv dev ev) = inv_lasts dev.0 ev.0
  ran_lasts (command.Invall icid) = invall_lasts icid.0
  ran_lasts (command.Movall from to) = movall_lasts from to
  ran_lasts (command.Discard dev ev) = discard_lasts dev.0 ev.0
  ran_lasts (command.Unknown opcode) = tt
