-- A command changes no part but its translator and the redistributors that it needs.
use Rattle.std.proofs.Common.{◌≡◌, ℕ, Bool, true, false, ◌&&◌, ◌==◌, nat_lt, nat_le, ◌^◌, List, [], ◌∷◌, Option, Some, None, is_some, Result, Ok, Err, refl}
use Rattle.std.proofs.Common.{sym, subst, if◌then◌else◌}
use Rattle.std.specs.Option.{ok_or}
use Rattle.gits_regs.specs.Registers.{collection_places}
use Rattle.baser_place.specs.Places.{device_place}
use Rattle.its_command.specs.declared.command.Command.{Command}
use Rattle.its_command.specs.declared.command.Command.TheVariants as command
use Rattle.its_types.specs.Ranges.{is_device_id, is_lpi}
use Rattle.its_types.specs.Lpis.{is_pending, with_lpi, with_lpis, without_lpi}
use Rattle.its_types.specs.Maps.{Maps, device_of, event_of, collection_of, device_mapped, device_unmapped, event_mapped, event_unmapped, collection_mapped}
use Rattle.its_types.specs.Maps.{collection_unmapped}
use Rattle.its_types.specs.declared.ids.Vcpu.{Vcpu}
use Rattle.its_types.specs.declared.machine.Part.{Part}
use Rattle.its_types.specs.declared.machine.Part.TheVariants.{Maps as MapsOf, Pend}
use Rattle.its_types.specs.declared.machine.Profile.{Profile}
use Rattle.its_types.specs.declared.machine.Profile.TheVariants.{One, Two}
use Rattle.its_types.specs.declared.translation.Event.{Event}
use Rattle.its_plain.specs.Plain.{Plain, translator, regs_of, maps_of, pending_of, is_on, with_maps, with_pending}
use Rattle.its_plain.specs.Commands.{◌>>=◌, ensure, lpi_set, lpi_cleared, lpi_moved, lpis_moved, all_moved, conf_all_reread_at, reread, event_at, target_at}
use Rattle.its_plain.specs.Commands.{intids_of, mapd, unmapd, followed, followed_in, mapc, unmapc, mapti, movi, lpi_at, int, clear, cleared_at, discard, inv}
use Rattle.its_plain.specs.Commands.{invall, movall, ran}
use Rattle.its_plain.specs.Parts.{IsIn, pend, pend_at, every_conf, target_of_event, moved_targets, both_targets, needed}
use Rattle.its_plain.specs.declared.call.Reason.{Reason}
use Rattle.its_plain.specs.declared.call.Reason.TheVariants.{DeviceRange, SizeRange, TargetRange, CollectionRange, NoDevice, EventRange, IntidRange, LpisOff}
use Rattle.plain_footprint.proofs.Listed.{in_head, in_tail, in_left, in_right, in_pend_at}
use Rattle.plain_footprint.proofs.Stays.{Stay, HasAll, stay, stay_translator, stay_pend, stay_confs, stay_if}
use Rattle.plain_footprint.proofs.Chains.{ensure_is, target_at_is, target_of_event_is, lpi_at_is}

-- what a command that ran leaves differs in these parts alone
abbrev pub Kept : Plain → List Part → Result Plain Reason → Type 0
Kept u ps (Ok w) = Stay u ps w
Kept u ps (Err r) = Unit {0}

kept_then : {A : Type 0} (u : Plain) (ps : List Part) (x : Result A Reason) (f : A → Result Plain Reason) → ((a : A) → x ≡ Ok a → Kept u ps (f a))
    → Kept u ps (x >>= f)
kept_then u ps (Ok a) f h = h a refl
kept_then u ps (Err r) f h = tt

kept_if : (u : Plain) (ps : List Part) (a b : Result Plain Reason) (test : Bool) → Kept u ps a → Kept u ps b → Kept u ps (if test then a else b)
kept_if u ps a b true s t = s
kept_if u ps a b false s t = t

module _ (u : Plain) (ps : List Part) (i : ℕ) (here : IsIn (MapsOf i) ps) where
  maps_stay : (w : Plain) (m : Maps) → Stay u ps w → Stay u ps (with_maps w i m)
  maps_stay w m s = stay_translator u w ps i (record (translator w i) { maps = m }) here s

  pending_stays : (w : Plain) (v : ℕ) (pending : List ℕ) → IsIn (pend v) ps → Stay u ps w → Stay u ps (with_pending w v pending)
  pending_stays w v pending at s = stay_pend u w ps v (record { pending = pending; accepts = is_on w v }) at s

  moved_stays : (w : Plain) (x from to : ℕ) → IsIn (pend from) ps → IsIn (pend to) ps → Stay u ps w → Stay u ps (lpi_moved x from to w)
  moved_stays w x from to f t s =
      stay_if u (lpi_set x to (lpi_cleared x from w)) w ps (is_pending x (pending_of w from))
      (pending_stays (lpi_cleared x from w) to (with_lpi x (pending_of (lpi_cleared x from w) to)) t
      (pending_stays w from (without_lpi x (pending_of w from)) f s)) s

  all_moved_stay : (w : Plain) (xs : List ℕ) (from to : ℕ) → IsIn (pend from) ps → IsIn (pend to) ps → Stay u ps w → Stay u ps (lpis_moved xs from to w)
  all_moved_stay w [] from to f t s = s
  all_moved_stay w (x ∷ xs) from to f t s = all_moved_stay (lpi_moved x from to w) xs from to f t (moved_stays w x from to f t s)

  cleared_stays : (w : Plain) (x : ℕ) (o : Option Vcpu) → ((v : Vcpu) → o ≡ Some v → IsIn (Pend v) ps) → Stay u ps w → Stay u ps (cleared_at x o w)
  cleared_stays w x None h s = s
  cleared_stays w x (Some v) h s = pending_stays w v.0 (without_lpi x (pending_of w v.0)) (h v refl) s

  -- ---- events

  movi_stays : (dev ev icid : ℕ) → ((v : Vcpu) → target_of_event (maps_of u i) dev ev ≡ Some v → IsIn (Pend v) ps)
      → ((v : Vcpu) → collection_of (maps_of u i) icid ≡ Some v → IsIn (Pend v) ps)
      → Kept u ps (movi u i dev ev icid)
  unfolding movi
  movi_stays dev ev icid f t =
      kept_then u ps (event_at (maps_of u i) dev ev) _ (λ event at.
      kept_then u ps (target_at (maps_of u i) event.icid.0) _ (λ from is.
      kept_then u ps (target_at (maps_of u i) icid) _ (λ to was.
      kept_then u ps (ensure (is_on u from.0 && is_on u to.0) LpisOff) _ (λ _ _.
      moved_stays (with_maps u i (event_mapped (maps_of u i) dev ev (record event { icid = record { 0 = icid } }))) event.intid.0 from.0 to.0
      (f from (target_of_event_is (maps_of u i) dev ev event (Some from) at (target_at_is (maps_of u i) event.icid.0 from is)))
      (t to (target_at_is (maps_of u i) icid to was))
      (maps_stay u (event_mapped (maps_of u i) dev ev (record event { icid = record { 0 = icid } })) (stay u ps))))))

  int_stays : (dev ev : ℕ) → ((v : Vcpu) → target_of_event (maps_of u i) dev ev ≡ Some v → IsIn (Pend v) ps) → Kept u ps (int u i dev ev)
  unfolding int
  int_stays dev ev f = kept_then u ps (lpi_at u i dev ev) _ (λ lpi at. pending_stays u lpi.1.0 (with_lpi lpi.0.0 (pending_of u lpi.1.0))
      (f lpi.1 (lpi_at_is u i dev ev lpi at)) (stay u ps))

  clear_stays : (dev ev : ℕ) → ((v : Vcpu) → target_of_event (maps_of u i) dev ev ≡ Some v → IsIn (Pend v) ps) → Kept u ps (clear u i dev ev)
  unfolding clear
  clear_stays dev ev f = kept_then u ps (lpi_at u i dev ev) _ (λ lpi at. pending_stays u lpi.1.0 (without_lpi lpi.0.0 (pending_of u lpi.1.0))
      (f lpi.1 (lpi_at_is u i dev ev lpi at)) (stay u ps))

  discard_stays : (dev ev : ℕ) → ((v : Vcpu) → target_of_event (maps_of u i) dev ev ≡ Some v → IsIn (Pend v) ps) → Kept u ps (discard u i dev ev)
  unfolding discard
  discard_stays dev ev f =
      kept_then u ps (event_at (maps_of u i) dev ev) _ (λ event at.
      cleared_stays (with_maps u i (event_unmapped (maps_of u i) dev ev)) event.intid.0 (collection_of (maps_of u i) event.icid.0)
      (λ v is. f v (target_of_event_is (maps_of u i) dev ev event (Some v) at is)) (maps_stay u (event_unmapped (maps_of u i) dev ev) (stay u ps)))

  mapti_stays : (dev ev intid icid : ℕ) → HasAll u ps → Kept u ps (mapti u i dev ev intid icid)
  unfolding mapti
  mapti_stays dev ev intid icid all =
      let event : Event = record { intid = record { 0 = intid }; icid = record { 0 = icid } } in
      kept_then u ps (ok_or (device_of (maps_of u i) dev) NoDevice) _ (λ device _.
      kept_then u ps (ensure (nat_lt ev (2 ^ device.bits)) EventRange) _ (λ _ _.
      kept_then u ps (ensure (is_lpi u.layout.shape.lpi_bits intid) IntidRange) _ (λ _ _.
      kept_then u ps (ensure (nat_lt icid (collection_places (regs_of u i))) CollectionRange) _ (λ _ _.
      stay_if u u (reread (intid ∷ []) (with_maps u i (event_mapped (maps_of u i) dev ev event))) ps (is_some (event_of (maps_of u i) dev ev)) (stay u ps)
      (stay_confs u (with_maps u i (event_mapped (maps_of u i) dev ev event)) ps (conf_all_reread_at u.memory (intid ∷ [])) all
      (maps_stay u (event_mapped (maps_of u i) dev ev event) (stay u ps)))))))

  inv_stays : (dev ev : ℕ) → HasAll u ps → Kept u ps (inv u i dev ev)
  unfolding inv
  inv_stays dev ev all = kept_then u ps (event_at (maps_of u i) dev ev) _ (λ event _. stay_confs u u ps (conf_all_reread_at u.memory (event.intid.0 ∷ [])) all
      (stay u ps))

  invall_stays : (icid : ℕ) → HasAll u ps → Kept u ps (invall u i icid)
  unfolding invall
  invall_stays icid all = kept_then u ps (target_at (maps_of u i) icid) _
      (λ _ _. stay_confs u u ps (conf_all_reread_at u.memory (intids_of (maps_of u i) icid)) all (stay u ps))

  -- ---- devices and collections

  mapd_stays : (dev bits itt : ℕ) → Kept u ps (mapd u i dev bits itt)
  unfolding mapd
  mapd_stays dev bits itt =
      kept_then u ps (ensure (is_some (device_place (regs_of u i) u.memory dev)) DeviceRange) _ (λ _ _.
      kept_then u ps (ensure (nat_le bits 16) SizeRange) _
      (λ _ _. maps_stay u (device_mapped (maps_of u i) dev (record { itt = record { 0 = itt }; bits = bits })) (stay u ps)))

  unmapd_stays : (dev : ℕ) → Kept u ps (unmapd u i dev)
  unfolding unmapd
  unmapd_stays dev = kept_then u ps (ensure (is_device_id u.layout.shape.dev_bits dev) DeviceRange) _ (λ _ _. maps_stay u (device_unmapped (maps_of u i) dev)
      (stay u ps))

  followed_stays : (icid from to : ℕ) → IsIn (pend from) ps → IsIn (pend to) ps → Stay u ps (followed u i icid from to)
  followed_stays icid from to f t =
      stay_if u (lpis_moved (intids_of (maps_of u i) icid) from to u) u ps (is_on u from && is_on u to)
      (all_moved_stay u (intids_of (maps_of u i) icid) from to f t (stay u ps)) (stay u ps)

  followed_in_stays : (profile : Profile) (icid : ℕ) (before : Option Vcpu) (to : ℕ) → ((p : Part) → IsIn p (moved_targets profile before to) → IsIn p ps)
      → Stay u ps (followed_in profile u i icid before to)
  followed_in_stays One icid before to h = stay u ps
  followed_in_stays Two icid None to h = stay u ps
  followed_in_stays Two icid (Some from) to h = other (from.0 == to) h
    where
      other : (same : Bool) → ((p : Part) → IsIn p (if same then [] else Pend from ∷ pend to ∷ []) → IsIn p ps)
          → Stay u ps (if same then u else followed u i icid from.0 to)
      other true h = stay u ps
      other false h = followed_stays icid from.0 to (h (Pend from) (in_head (Pend from) (pend to ∷ [])))
          (h (pend to) (in_tail (pend to) (Pend from) (pend to ∷ []) (in_head (pend to) [])))

  mapc_stays : (icid target : ℕ) → (nat_lt target u.layout.shape.vcpus ≡ true → (p : Part)
      → IsIn p (moved_targets u.layout.shape.profile (collection_of (maps_of u i) icid) target) → IsIn p ps)
      → Kept u ps (mapc u i icid target)
  unfolding mapc
  mapc_stays icid target h =
      kept_then u ps (ensure (nat_lt target u.layout.shape.vcpus) TargetRange) _ (λ t below.
      kept_then u ps (ensure (nat_lt icid (collection_places (regs_of u i))) CollectionRange) _ (λ _ _.
      let w : Plain = followed_in u.layout.shape.profile u i icid (collection_of (maps_of u i) icid) target in
      maps_stay w (collection_mapped (maps_of w i) icid (record { 0 = target }))
      (followed_in_stays u.layout.shape.profile icid (collection_of (maps_of u i) icid) target
      (h (ensure_is (nat_lt target u.layout.shape.vcpus) TargetRange t below)))))

  mapc_or_unmapc_stays : (valid : Bool) (icid target : ℕ)
      → ((p : Part) → IsIn p (if valid && nat_lt target u.layout.shape.vcpus then moved_targets u.layout.shape.profile (collection_of (maps_of u i) icid)
      target else []) → IsIn p ps)
      → Kept u ps (if valid then mapc u i icid target else Ok (unmapc u i icid))
  mapc_or_unmapc_stays true icid target h =
      mapc_stays icid target (λ e p at.
      h p (subst (λ (b : Bool). IsIn p (if b then moved_targets u.layout.shape.profile (collection_of (maps_of u i) icid) target else [])) (sym e) at))
  mapc_or_unmapc_stays false icid target h = maps_stay u (collection_unmapped (maps_of u i) icid) (stay u ps)

  all_moved_stays : (from to : ℕ) → IsIn (pend from) ps → IsIn (pend to) ps → Stay u ps (all_moved from to u)
  unfolding all_moved
  all_moved_stays from to f t =
      stay_if u u (with_pending (with_pending u from []) to (with_lpis (pending_of u from) (pending_of u to))) ps (from == to) (stay u ps)
      (pending_stays (with_pending u from []) to (with_lpis (pending_of u from) (pending_of u to)) t (pending_stays u from [] f (stay u ps)))

  movall_stays : (from to : ℕ) → ((p : Part) → IsIn p (both_targets u.layout.shape.vcpus from to) → IsIn p ps) → Kept u ps (movall u from to)
  unfolding movall
  movall_stays from to h =
      kept_then u ps (ensure (nat_lt from u.layout.shape.vcpus && nat_lt to u.layout.shape.vcpus) TargetRange) _ (λ t both.
      let is = ensure_is (nat_lt from u.layout.shape.vcpus && nat_lt to u.layout.shape.vcpus) TargetRange t both in
      let listed = λ (p : Part) (at : IsIn p (pend from ∷ pend to ∷ [])). h p (subst (λ (b : Bool). IsIn p (if b then pend from ∷ pend to ∷ [] else []))
      (sym is) at) in
      kept_then u ps (ensure (is_on u from && is_on u to) LpisOff) _ (λ _ _.
      all_moved_stays from to (listed (pend from) (in_head (pend from) (pend to ∷ [])))
      (listed (pend to) (in_tail (pend to) (pend from) (pend to ∷ []) (in_head (pend to) [])))))

-- ---- all commands

pub ran_stays : (u : Plain) (ps : List Part) (i : ℕ) (c : Command) → IsIn (MapsOf i) ps → ((p : Part) → IsIn p (needed u i c) → IsIn p ps)
    → (((p : Part) → IsIn p (every_conf u) → IsIn p ps) → HasAll u ps) → Kept u ps (ran u i c)
unfolding ran needed
ran_stays u ps i (command.Movi dev ev icid) here h all =
    let from : Option Vcpu = target_of_event (maps_of u i) dev.0 ev.0 in
    let to : Option Vcpu = collection_of (maps_of u i) icid.0 in
    movi_stays u ps i here dev.0 ev.0 icid.0 (λ v e. h (Pend v) (in_left (Pend v) (pend_at from) (pend_at to) (in_pend_at from v e)))
    (λ v e. h (Pend v) (in_right (Pend v) (pend_at from) (pend_at to) (in_pend_at to v e)))
ran_stays u ps i (command.Int dev ev) here h all = int_stays u ps i here dev.0 ev.0
    (λ v e. h (Pend v) (in_pend_at (target_of_event (maps_of u i) dev.0 ev.0) v e))
ran_stays u ps i (command.Clear dev ev) here h all = clear_stays u ps i here dev.0 ev.0
    (λ v e. h (Pend v) (in_pend_at (target_of_event (maps_of u i) dev.0 ev.0) v e))
ran_stays u ps i (command.Sync target) here h all = stay u ps
ran_stays u ps i (command.Mapd dev bits itt valid) here h all = kept_if u ps (mapd u i dev.0 bits itt) (unmapd u i dev.0) valid
    (mapd_stays u ps i here dev.0 bits itt) (unmapd_stays u ps i here dev.0)
ran_stays u ps i (command.Mapc icid target valid) here h all = mapc_or_unmapc_stays u ps i here valid icid.0 target h
ran_stays u ps i (command.Mapti dev ev intid icid) here h all = mapti_stays u ps i here dev.0 ev.0 intid.0 icid.0 (all h)
ran_stays u ps i (command.Mapi dev ev icid) here h all = mapti_stays u ps i here dev.0 ev.0 ev.0 icid.0 (all h)
ran_stays u ps i (command.Inv dev ev) here h all = inv_stays u ps i here dev.0 ev.0 (all h)
ran_stays u ps i (command.Invall icid) here h all = invall_stays u ps i here icid.0 (all h)
ran_stays u ps i (command.Movall from to) here h all = movall_stays u ps i here from to h
ran_stays u ps i (command.Discard dev ev) here h all = discard_stays u ps i here dev.0 ev.0
    (λ v e. h (Pend v) (in_pend_at (target_of_event (maps_of u i) dev.0 ev.0) v e))
ran_stays u ps i (command.Unknown opcode) here h all = tt
