-- What a command does in two states that have the parts in common that it needs.
use Rattle.std.proofs.Common.{◌≡◌, ℕ, Bool, true, false, ◌&&◌, ◌==◌, nat_lt, nat_le, ◌^◌, List, [], ◌∷◌, Option, Some, None, is_some, Result, Ok, Err, refl}
use Rattle.std.proofs.Common.{ap, sym, subst, if◌then◌else◌}
use Rattle.std.specs.Option.{ok_or}
use Rattle.guest_windows.specs.Windows.{Window}
use Rattle.gits_regs.specs.Registers.{collection_places}
use Rattle.baser_place.specs.Places.{device_place}
use Rattle.its_command.specs.declared.command.Command.{Command}
use Rattle.its_command.specs.declared.command.Command.TheVariants as command
use Rattle.its_types.specs.Ranges.{is_device_id, is_lpi}
use Rattle.its_types.specs.Lpis.{with_lpis}
use Rattle.its_types.specs.Maps.{Maps, device_of, event_of, collection_of, device_mapped, device_unmapped, event_mapped, event_unmapped, collection_mapped}
use Rattle.its_types.specs.Maps.{collection_unmapped}
use Rattle.its_types.specs.declared.ids.Vcpu.{Vcpu}
use Rattle.its_types.specs.declared.machine.Part.{Part}
use Rattle.its_types.specs.declared.machine.Part.TheVariants.{Maps as MapsOf, Pend}
use Rattle.its_types.specs.declared.machine.Profile.{Profile}
use Rattle.its_types.specs.declared.machine.Profile.TheVariants.{One, Two}
use Rattle.its_types.specs.declared.translation.Event.{Event}
use Rattle.its_plain.specs.Plain.{Plain, Translator, PendState, regs_of, maps_of, pending_of, is_on, with_maps, with_pending}
use Rattle.its_plain.specs.declared.layout.Layout.{Layout}
use Rattle.its_plain.specs.Commands.{◌>>=◌, ensure, lpis_moved, all_moved, conf_all_reread_at, reread, event_at, target_at, intids_of, mapd, unmapd, followed}
use Rattle.its_plain.specs.Commands.{followed_in, mapc, unmapc, mapti, movi, lpi_at, int, clear, cleared_at, discard, inv, invall, movall, ran}
use Rattle.its_plain.specs.Parts.{IsIn, AgreesOn, pend, pend_at, target_of_event, moved_targets, both_targets, needed}
use Rattle.its_plain.specs.declared.call.Reason.{Reason}
use Rattle.its_plain.specs.declared.call.Reason.TheVariants.{DeviceRange, SizeRange, TargetRange, CollectionRange, NoDevice, EventRange, IntidRange, LpisOff}
use Rattle.plain_footprint.proofs.Listed.{in_head, in_tail, in_left, in_right, in_pend_at}
use Rattle.plain_footprint.proofs.Chains.{ensure_is, target_at_is, target_of_event_is, lpi_at_is}
use Rattle.plain_footprint.proofs.Alike.{translator_same, pend_same, agree_confs, agree_if, maps_same, agree_maps, agree_pending, agree_set, agree_cleared}
use Rattle.plain_footprint.proofs.Alike.{agree_moved, agree_all_moved, agree_cleared_at}

-- both are refused for one reason, or leave states that have the parts in common
abbrev pub Alike : List Part → Result Plain Reason → Result Plain Reason → Type 0
Alike ps (Ok u) (Ok w) = AgreesOn u w ps
Alike ps (Ok u) (Err s) = ⊥
Alike ps (Err r) (Ok w) = ⊥
Alike ps (Err r) (Err s) = r ≡ s

alike_from : {A : Type 0} (ps : List Part) (x : Result A Reason) (f g : A → Result Plain Reason) → ((a : A) → x ≡ Ok a → Alike ps (f a) (g a))
    → Alike ps (x >>= f) (x >>= g)
alike_from ps (Ok a) f g h = h a refl
alike_from ps (Err r) f g h = refl

alike_then : {A : Type 0} (ps : List Part) (x y : Result A Reason) (f g : A → Result Plain Reason) → x ≡ y → ((a : A) → x ≡ Ok a → Alike ps (f a) (g a))
    → Alike ps (x >>= f) (y >>= g)
alike_then {A} ps x y f g e h = subst (λ (z : Result A Reason). Alike ps (x >>= f) (z >>= g)) e (alike_from ps x f g h)

same_from : {A B : Type 0} (x : Result A Reason) (f g : A → Result B Reason) → ((a : A) → x ≡ Ok a → f a ≡ g a) → (x >>= f) ≡ (x >>= g)
same_from (Ok a) f g h = h a refl
same_from (Err r) f g h = refl

same_then : {A B : Type 0} (x y : Result A Reason) (f g : A → Result B Reason) → x ≡ y → ((a : A) → x ≡ Ok a → f a ≡ g a) → (x >>= f) ≡ (y >>= g)
same_then {A} {B} x y f g e h = subst (λ (z : Result A Reason). (x >>= f) ≡ (z >>= g)) e (same_from x f g h)

module _ (ps : List Part) (i : ℕ) (here : IsIn (MapsOf i) ps) (u w : Plain) (a : AgreesOn u w ps) where
  maps_are : maps_of u i ≡ maps_of w i
  maps_are = maps_same ps i here u w a

  on_is : (v : ℕ) → IsIn (pend v) ps → is_on u v ≡ is_on w v
  on_is v at = ap (λ (p : PendState). p.accepts) (pend_same u w ps v at a)

  both_on : (from to : ℕ) → IsIn (pend from) ps → IsIn (pend to) ps → (is_on u from && is_on u to) ≡ (is_on w from && is_on w to)
  both_on from to f t = λ d. on_is from f d && on_is to t d

  event_is : (dev ev : ℕ) → event_at (maps_of u i) dev ev ≡ event_at (maps_of w i) dev ev
  event_is dev ev = ap (λ (m : Maps). event_at m dev ev) maps_are

  target_is : (icid : ℕ) → target_at (maps_of u i) icid ≡ target_at (maps_of w i) icid
  target_is icid = ap (λ (m : Maps). target_at m icid) maps_are

  lpi_is : (dev ev : ℕ) → ((v : Vcpu) → target_of_event (maps_of u i) dev ev ≡ Some v → IsIn (Pend v) ps) → lpi_at u i dev ev ≡ lpi_at w i dev ev
  unfolding lpi_at
  lpi_is dev ev f =
      same_then (event_at (maps_of u i) dev ev) (event_at (maps_of w i) dev ev) _ _ (event_is dev ev) (λ event at.
      same_then (target_at (maps_of u i) event.icid.0) (target_at (maps_of w i) event.icid.0) _ _ (target_is event.icid.0) (λ v is.
      let listed : IsIn (Pend v) ps = f v (target_of_event_is (maps_of u i) dev ev event (Some v) at (target_at_is (maps_of u i) event.icid.0 v is)) in
      same_then (ensure (is_on u v.0) LpisOff) (ensure (is_on w v.0) LpisOff) _ _ (ap (λ (b : Bool). ensure b LpisOff) (on_is v.0 listed)) (λ _ _. refl)))

  -- ---- events

  movi_alike : (dev ev icid : ℕ) → ((v : Vcpu) → target_of_event (maps_of u i) dev ev ≡ Some v → IsIn (Pend v) ps)
      → ((v : Vcpu) → collection_of (maps_of u i) icid ≡ Some v → IsIn (Pend v) ps)
      → Alike ps (movi u i dev ev icid) (movi w i dev ev icid)
  unfolding movi
  movi_alike dev ev icid f t =
      alike_then ps (event_at (maps_of u i) dev ev) (event_at (maps_of w i) dev ev) _ _ (event_is dev ev) (λ event at.
      alike_then ps (target_at (maps_of u i) event.icid.0) (target_at (maps_of w i) event.icid.0) _ _ (target_is event.icid.0) (λ from is.
      alike_then ps (target_at (maps_of u i) icid) (target_at (maps_of w i) icid) _ _ (target_is icid) (λ to was.
      let old : IsIn (Pend from) ps =
      f from (target_of_event_is (maps_of u i) dev ev event (Some from) at (target_at_is (maps_of u i) event.icid.0 from is)) in
      let new : IsIn (Pend to) ps = t to (target_at_is (maps_of u i) icid to was) in
      let given : Event = record event { icid = record { 0 = icid } } in
      alike_then ps (ensure (is_on u from.0 && is_on u to.0) LpisOff) (ensure (is_on w from.0 && is_on w to.0) LpisOff) _ _
      (ap (λ (b : Bool). ensure b LpisOff) (both_on from.0 to.0 old new)) (λ _ _.
      agree_moved ps (with_maps u i (event_mapped (maps_of u i) dev ev given)) (with_maps w i (event_mapped (maps_of w i) dev ev given)) event.intid.0 from.0
      to.0 old new
      (agree_maps ps i here u w (event_mapped (maps_of u i) dev ev given) (event_mapped (maps_of w i) dev ev given)
      (ap (λ (m : Maps). event_mapped m dev ev given) maps_are) a)))))

  int_alike : (dev ev : ℕ) → ((v : Vcpu) → target_of_event (maps_of u i) dev ev ≡ Some v → IsIn (Pend v) ps) → Alike ps (int u i dev ev) (int w i dev ev)
  unfolding int
  int_alike dev ev f =
      alike_then ps (lpi_at u i dev ev) (lpi_at w i dev ev) _ _ (lpi_is dev ev f)
      (λ lpi at. agree_set ps u w lpi.0.0 lpi.1.0 (f lpi.1 (lpi_at_is u i dev ev lpi at)) a)

  clear_alike : (dev ev : ℕ) → ((v : Vcpu) → target_of_event (maps_of u i) dev ev ≡ Some v → IsIn (Pend v) ps)
      → Alike ps (clear u i dev ev) (clear w i dev ev)
  unfolding clear
  clear_alike dev ev f =
      alike_then ps (lpi_at u i dev ev) (lpi_at w i dev ev) _ _ (lpi_is dev ev f)
      (λ lpi at. agree_cleared ps u w lpi.0.0 lpi.1.0 (f lpi.1 (lpi_at_is u i dev ev lpi at)) a)

  discard_alike : (dev ev : ℕ) → ((v : Vcpu) → target_of_event (maps_of u i) dev ev ≡ Some v → IsIn (Pend v) ps)
      → Alike ps (discard u i dev ev) (discard w i dev ev)
  unfolding discard
  discard_alike dev ev f =
      alike_then ps (event_at (maps_of u i) dev ev) (event_at (maps_of w i) dev ev) _ _ (event_is dev ev) (λ event at.
      let v : Plain = with_maps u i (event_unmapped (maps_of u i) dev ev) in
      let x : Plain = with_maps w i (event_unmapped (maps_of w i) dev ev) in
      subst (λ (m : Maps). AgreesOn (cleared_at event.intid.0 (collection_of (maps_of u i) event.icid.0) v)
      (cleared_at event.intid.0 (collection_of m event.icid.0) x) ps) maps_are
      (agree_cleared_at ps v x event.intid.0 (collection_of (maps_of u i) event.icid.0)
      (λ z is. f z (target_of_event_is (maps_of u i) dev ev event (Some z) at is))
      (agree_maps ps i here u w (event_unmapped (maps_of u i) dev ev) (event_unmapped (maps_of w i) dev ev)
      (ap (λ (m : Maps). event_unmapped m dev ev) maps_are) a)))

  -- ---- devices and collections

  unmapd_alike : (dev : ℕ) → Alike ps (unmapd u i dev) (unmapd w i dev)
  unfolding unmapd
  unmapd_alike dev =
      alike_then ps (ensure (is_device_id u.layout.shape.dev_bits dev) DeviceRange) (ensure (is_device_id w.layout.shape.dev_bits dev) DeviceRange) _ _
      (ap (λ (l : Layout). ensure (is_device_id l.shape.dev_bits dev) DeviceRange) a.layout) (λ _ _.
      agree_maps ps i here u w (device_unmapped (maps_of u i) dev) (device_unmapped (maps_of w i) dev) (ap (λ (m : Maps). device_unmapped m dev) maps_are) a)

  followed_alike : (icid from to : ℕ) → IsIn (pend from) ps → IsIn (pend to) ps → AgreesOn (followed u i icid from to) (followed w i icid from to) ps
  followed_alike icid from to f t =
      agree_if (lpis_moved (intids_of (maps_of u i) icid) from to u) (lpis_moved (intids_of (maps_of w i) icid) from to w) u w ps (is_on u from && is_on u to)
      (is_on w from && is_on w to) (both_on from to f t)
      (subst (λ (m : Maps). AgreesOn (lpis_moved (intids_of (maps_of u i) icid) from to u) (lpis_moved (intids_of m icid) from to w) ps) maps_are
      (agree_all_moved ps u w (intids_of (maps_of u i) icid) from to f t a)) a

  followed_in_alike : (profile : Profile) (icid : ℕ) (before : Option Vcpu) (to : ℕ) → ((p : Part) → IsIn p (moved_targets profile before to) → IsIn p ps)
      → AgreesOn (followed_in profile u i icid before to) (followed_in profile w i icid before to) ps
  followed_in_alike One icid before to h = a
  followed_in_alike Two icid None to h = a
  followed_in_alike Two icid (Some from) to h = other (from.0 == to) h
    where
      other : (same : Bool) → ((p : Part) → IsIn p (if same then [] else Pend from ∷ pend to ∷ []) → IsIn p ps)
          → AgreesOn (if same then u else followed u i icid from.0 to) (if same then w else followed w i icid from.0 to) ps
      other true h = a
      other false h = followed_alike icid from.0 to (h (Pend from) (in_head (Pend from) (pend to ∷ [])))
          (h (pend to) (in_tail (pend to) (Pend from) (pend to ∷ []) (in_head (pend to) [])))

  followed_both : (icid to : ℕ) → ((p : Part) → IsIn p (moved_targets u.layout.shape.profile (collection_of (maps_of u i) icid) to) → IsIn p ps)
      → AgreesOn (followed_in u.layout.shape.profile u i icid (collection_of (maps_of u i) icid) to)
      (followed_in w.layout.shape.profile w i icid (collection_of (maps_of w i) icid) to) ps
  followed_both icid to h =
      subst (λ (l : Layout). AgreesOn (followed_in u.layout.shape.profile u i icid (collection_of (maps_of u i) icid) to)
      (followed_in l.shape.profile w i icid (collection_of (maps_of w i) icid) to) ps) a.layout
      (subst (λ (m : Maps). AgreesOn (followed_in u.layout.shape.profile u i icid (collection_of (maps_of u i) icid) to)
      (followed_in u.layout.shape.profile w i icid (collection_of m icid) to) ps) maps_are
      (followed_in_alike u.layout.shape.profile icid (collection_of (maps_of u i) icid) to h))

  places_are : (icid : ℕ) → ensure (nat_lt icid (collection_places (regs_of u i))) CollectionRange ≡ ensure (nat_lt icid (collection_places (regs_of w i)))
      CollectionRange
  places_are icid = ap (λ (t : Translator). ensure (nat_lt icid (collection_places t.regs)) CollectionRange) (translator_same u w ps i here a)

  mapc_alike : (icid target : ℕ) → (nat_lt target u.layout.shape.vcpus ≡ true → (p : Part)
      → IsIn p (moved_targets u.layout.shape.profile (collection_of (maps_of u i) icid) target) → IsIn p ps)
      → Alike ps (mapc u i icid target) (mapc w i icid target)
  unfolding mapc
  mapc_alike icid target h =
      alike_then ps (ensure (nat_lt target u.layout.shape.vcpus) TargetRange) (ensure (nat_lt target w.layout.shape.vcpus) TargetRange) _ _
      (ap (λ (l : Layout). ensure (nat_lt target l.shape.vcpus) TargetRange) a.layout) (λ t below.
      alike_then ps (ensure (nat_lt icid (collection_places (regs_of u i))) CollectionRange)
      (ensure (nat_lt icid (collection_places (regs_of w i))) CollectionRange) _ _ (places_are icid) (λ _ _.
      let v : Plain = followed_in u.layout.shape.profile u i icid (collection_of (maps_of u i) icid) target in
      let x : Plain = followed_in w.layout.shape.profile w i icid (collection_of (maps_of w i) icid) target in
      let both : AgreesOn v x ps = followed_both icid target (h (ensure_is (nat_lt target u.layout.shape.vcpus) TargetRange t below)) in
      let to : Vcpu = record { 0 = target } in
      agree_maps ps i here v x (collection_mapped (maps_of v i) icid to) (collection_mapped (maps_of x i) icid to)
      (ap (λ (m : Maps). collection_mapped m icid to) (maps_same ps i here v x both)) both))

  mapc_or_unmapc_alike : (valid : Bool) (icid target : ℕ)
      → ((p : Part) → IsIn p (if valid && nat_lt target u.layout.shape.vcpus then moved_targets u.layout.shape.profile (collection_of (maps_of u i) icid)
      target else []) → IsIn p ps)
      → Alike ps (if valid then mapc u i icid target else Ok (unmapc u i icid)) (if valid then mapc w i icid target else Ok (unmapc w i icid))
  mapc_or_unmapc_alike true icid target h =
      mapc_alike icid target (λ e p at.
      h p (subst (λ (b : Bool). IsIn p (if b then moved_targets u.layout.shape.profile (collection_of (maps_of u i) icid) target else [])) (sym e) at))
  mapc_or_unmapc_alike false icid target h = agree_maps ps i here u w (collection_unmapped (maps_of u i) icid) (collection_unmapped (maps_of w i) icid)
      (ap (λ (m : Maps). collection_unmapped m icid) maps_are) a

  -- ---- redistributors

  all_moved_alike : (from to : ℕ) → IsIn (pend from) ps → IsIn (pend to) ps → AgreesOn (all_moved from to u) (all_moved from to w) ps
  unfolding all_moved
  all_moved_alike from to f t =
      agree_if u w (with_pending (with_pending u from []) to (with_lpis (pending_of u from) (pending_of u to)))
      (with_pending (with_pending w from []) to (with_lpis (pending_of w from) (pending_of w to))) ps (from == to) (from == to) refl a
      (agree_pending ps (with_pending u from []) (with_pending w from []) to (with_lpis (pending_of u from) (pending_of u to))
      (with_lpis (pending_of w from) (pending_of w to))
      (λ d. with_lpis (pend_same u w ps from f a d).pending (pend_same u w ps to t a d).pending) t (agree_pending ps u w from [] [] refl f a))

  movall_alike : (from to : ℕ) → ((p : Part) → IsIn p (both_targets u.layout.shape.vcpus from to) → IsIn p ps) → Alike ps (movall u from to) (movall w from to)
  unfolding movall
  movall_alike from to h =
      alike_then ps (ensure (nat_lt from u.layout.shape.vcpus && nat_lt to u.layout.shape.vcpus) TargetRange)
      (ensure (nat_lt from w.layout.shape.vcpus && nat_lt to w.layout.shape.vcpus) TargetRange) _ _
      (ap (λ (l : Layout). ensure (nat_lt from l.shape.vcpus && nat_lt to l.shape.vcpus) TargetRange) a.layout) (λ t both.
      let is = ensure_is (nat_lt from u.layout.shape.vcpus && nat_lt to u.layout.shape.vcpus) TargetRange t both in
      let listed = λ (p : Part) (at : IsIn p (pend from ∷ pend to ∷ [])). h p (subst (λ (b : Bool). IsIn p (if b then pend from ∷ pend to ∷ [] else []))
      (sym is) at) in
      let old : IsIn (pend from) ps = listed (pend from) (in_head (pend from) (pend to ∷ [])) in
      let new : IsIn (pend to) ps = listed (pend to) (in_tail (pend to) (pend from) (pend to ∷ []) (in_head (pend to) [])) in
      alike_then ps (ensure (is_on u from && is_on u to) LpisOff) (ensure (is_on w from && is_on w to) LpisOff) _ _
      (ap (λ (b : Bool). ensure b LpisOff) (both_on from to old new)) (λ _ _. all_moved_alike from to old new))

  -- ---- what reads memory too

  module _ (mem : u.memory ≡ w.memory) where
    mapd_alike : (dev bits itt : ℕ) → Alike ps (mapd u i dev bits itt) (mapd w i dev bits itt)
    unfolding mapd
    mapd_alike dev bits itt =
        alike_then ps (ensure (is_some (device_place (regs_of u i) u.memory dev)) DeviceRange)
        (ensure (is_some (device_place (regs_of w i) w.memory dev)) DeviceRange) _ _
        (λ d. ensure (is_some (device_place (translator_same u w ps i here a d).regs (mem d) dev)) DeviceRange) (λ _ _.
        alike_then ps (ensure (nat_le bits 16) SizeRange) (ensure (nat_le bits 16) SizeRange) _ _ refl (λ _ _.
        agree_maps ps i here u w (device_mapped (maps_of u i) dev (record { itt = record { 0 = itt }; bits = bits }))
        (device_mapped (maps_of w i) dev (record { itt = record { 0 = itt }; bits = bits }))
        (ap (λ (m : Maps). device_mapped m dev (record { itt = record { 0 = itt }; bits = bits })) maps_are) a))

    mapti_alike : (dev ev intid icid : ℕ) → Alike ps (mapti u i dev ev intid icid) (mapti w i dev ev intid icid)
    unfolding mapti
    mapti_alike dev ev intid icid =
        let event : Event = record { intid = record { 0 = intid }; icid = record { 0 = icid } } in
        alike_then ps (ok_or (device_of (maps_of u i) dev) NoDevice) (ok_or (device_of (maps_of w i) dev) NoDevice) _ _
        (ap (λ (m : Maps). ok_or (device_of m dev) NoDevice) maps_are) (λ device _.
        alike_then ps (ensure (nat_lt ev (2 ^ device.bits)) EventRange) (ensure (nat_lt ev (2 ^ device.bits)) EventRange) _ _ refl (λ _ _.
        alike_then ps (ensure (is_lpi u.layout.shape.lpi_bits intid) IntidRange) (ensure (is_lpi w.layout.shape.lpi_bits intid) IntidRange) _ _
        (ap (λ (l : Layout). ensure (is_lpi l.shape.lpi_bits intid) IntidRange) a.layout) (λ _ _.
        alike_then ps (ensure (nat_lt icid (collection_places (regs_of u i))) CollectionRange)
        (ensure (nat_lt icid (collection_places (regs_of w i))) CollectionRange) _ _ (places_are icid) (λ _ _.
        let v : Plain = with_maps u i (event_mapped (maps_of u i) dev ev event) in
        let x : Plain = with_maps w i (event_mapped (maps_of w i) dev ev event) in
        agree_if u w (reread (intid ∷ []) v) (reread (intid ∷ []) x) ps (is_some (event_of (maps_of u i) dev ev)) (is_some (event_of (maps_of w i) dev ev))
        (ap (λ (m : Maps). is_some (event_of m dev ev)) maps_are) a
        (agree_confs v x (conf_all_reread_at u.memory (intid ∷ [])) (conf_all_reread_at w.memory (intid ∷ []))
        (ap (λ (m : List Window). conf_all_reread_at m (intid ∷ [])) mem) ps
        (agree_maps ps i here u w (event_mapped (maps_of u i) dev ev event) (event_mapped (maps_of w i) dev ev event)
        (ap (λ (m : Maps). event_mapped m dev ev event) maps_are) a))))))

    inv_alike : (dev ev : ℕ) → Alike ps (inv u i dev ev) (inv w i dev ev)
    unfolding inv
    inv_alike dev ev =
        alike_then ps (event_at (maps_of u i) dev ev) (event_at (maps_of w i) dev ev) _ _ (event_is dev ev) (λ event _.
        agree_confs u w (conf_all_reread_at u.memory (event.intid.0 ∷ [])) (conf_all_reread_at w.memory (event.intid.0 ∷ []))
        (ap (λ (m : List Window). conf_all_reread_at m (event.intid.0 ∷ [])) mem) ps a)

    invall_alike : (icid : ℕ) → Alike ps (invall u i icid) (invall w i icid)
    unfolding invall
    invall_alike icid =
        alike_then ps (target_at (maps_of u i) icid) (target_at (maps_of w i) icid) _ _ (target_is icid) (λ _ _.
        agree_confs u w (conf_all_reread_at u.memory (intids_of (maps_of u i) icid)) (conf_all_reread_at w.memory (intids_of (maps_of w i) icid))
        (λ d. conf_all_reread_at (mem d) (intids_of (maps_are d) icid)) ps a)

    mapd_or_unmapd_alike : (valid : Bool) (dev bits itt : ℕ) → Alike ps (if valid then mapd u i dev bits itt else unmapd u i dev)
        (if valid then mapd w i dev bits itt else unmapd w i dev)
    mapd_or_unmapd_alike true dev bits itt = mapd_alike dev bits itt
    mapd_or_unmapd_alike false dev bits itt = unmapd_alike dev

-- ---- all commands

pub ran_alike : (ps : List Part) (i : ℕ) → IsIn (MapsOf i) ps → (u w : Plain) → AgreesOn u w ps → u.memory ≡ w.memory → (c : Command)
    → ((p : Part) → IsIn p (needed u i c) → IsIn p ps)
    → Alike ps (ran u i c) (ran w i c)
unfolding ran needed
ran_alike ps i here u w a mem (command.Movi dev ev icid) h =
    let from : Option Vcpu = target_of_event (maps_of u i) dev.0 ev.0 in
    let to : Option Vcpu = collection_of (maps_of u i) icid.0 in
    movi_alike ps i here u w a dev.0 ev.0 icid.0 (λ v e. h (Pend v) (in_left (Pend v) (pend_at from) (pend_at to) (in_pend_at from v e)))
    (λ v e. h (Pend v) (in_right (Pend v) (pend_at from) (pend_at to) (in_pend_at to v e)))
ran_alike ps i here u w a mem (command.Int dev ev) h = int_alike ps i here u w a dev.0 ev.0
    (λ v e. h (Pend v) (in_pend_at (target_of_event (maps_of u i) dev.0 ev.0) v e))
ran_alike ps i here u w a mem (command.Clear dev ev) h = clear_alike ps i here u w a dev.0 ev.0
    (λ v e. h (Pend v) (in_pend_at (target_of_event (maps_of u i) dev.0 ev.0) v e))
ran_alike ps i here u w a mem (command.Sync target) h = a
ran_alike ps i here u w a mem (command.Mapd dev bits itt valid) h = mapd_or_unmapd_alike ps i here u w a mem valid dev.0 bits itt
ran_alike ps i here u w a mem (command.Mapc icid target valid) h = mapc_or_unmapc_alike ps i here u w a valid icid.0 target h
ran_alike ps i here u w a mem (command.Mapti dev ev intid icid) h = mapti_alike ps i here u w a mem dev.0 ev.0 intid.0 icid.0
ran_alike ps i here u w a mem (command.Mapi dev ev icid) h = mapti_alike ps i here u w a mem dev.0 ev.0 ev.0 icid.0
ran_alike ps i here u w a mem (command.Inv dev ev) h = inv_alike ps i here u w a mem dev.0 ev.0
ran_alike ps i here u w a mem (command.Invall icid) h = invall_alike ps i here u w a mem icid.0
ran_alike ps i here u w a mem (command.Movall from to) h = movall_alike ps i here u w a from to h
ran_alike ps i here u w a mem (command.Discard dev ev) h = discard_alike ps i here u w a dev.0 ev.0
    (λ v e. h (Pend v) (in_pend_at (target_of_event (maps_of u i) dev.0 ev.0) v e))
ran_alike ps i here u w a mem (command.Unknown opcode) h = refl
