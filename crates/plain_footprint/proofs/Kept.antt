-- One induction over commands: what their parts keep, every command keeps.
use Rattle.std.proofs.Common.{◌≡◌, ℕ, zero, suc, ◌^◌, Bool, true, false, ◌&&◌, is_some, nat_lt, nat_le, eqb, if◌then◌else◌, List, [], ◌∷◌, get_or, set}
use Rattle.std.proofs.Common.{Option, Some, None}
use Rattle.std.proofs.Common.{Result, Ok, Err, IfOk, refl, ◌∙◌}
use Rattle.std.specs.Prelude.{ok_or}
use Rattle.std.proofs.lemmas.Bool.{and_parts, cond_both}
use Rattle.gits_regs.specs.Registers.{collection_places}
use Rattle.baser_place.specs.Places.{device_place}
use Rattle.its_types.specs.Ranges.{is_device_id, is_lpi}
use Rattle.its_types.specs.Lpis.{is_pending, with_lpi, without_lpi}
use Rattle.its_types.specs.Maps.{device_of, event_of, collection_of, device_mapped, device_unmapped, event_mapped, event_unmapped, collection_mapped}
use Rattle.its_types.specs.Maps.{collection_unmapped}
use Rattle.its_types.specs.declared.ids.Intid.{Intid}
use Rattle.its_types.specs.declared.ids.Vcpu.{Vcpu}
use Rattle.its_types.specs.declared.machine.Profile.{Profile}
use Rattle.its_types.specs.declared.machine.Profile.TheVariants.{One, Two}
use Rattle.its_types.specs.declared.translation.Event.{Event}
use Rattle.its_command.specs.declared.command.Command.TheVariants as command
use Rattle.its_plain.specs.Plain.{Plain, Redistributor, no_redistributor, pending_of, regs_of, maps_of, is_on, with_maps, with_pending}
use Rattle.its_plain.specs.Commands.{ensure, ◌>>=◌, event_at, target_at, lpi_at, cleared_at, followed, followed_in, intids_of, lpi_set, lpi_cleared}
use Rattle.its_plain.specs.Commands.{lpi_moved, lpis_moved, reread, ran, mapd, unmapd, mapc, mapti, movi, discard, int, clear, inv, invall, movall}
use Rattle.its_plain.specs.declared.call.Reason.{Reason}
use Rattle.its_plain.specs.declared.call.Reason.TheVariants.{DeviceRange, SizeRange, TargetRange, CollectionRange, NoDevice, EventRange, IntidRange, LpisOff}
use Rattle.plain_footprint.specs.Commands.{AreLpisKept, IsKept, CommandsKeep}

-- ---- a command's steps

-- after a step that went well
pub after_ok : {A B : Type 0} (P : B → Type 0) (r : Result A Reason) (f : A → Result B Reason) → ((x : A) → IfOk (f x) P) → IfOk (r >>= f) P
after_ok P (Ok x) f h = h x
after_ok P (Err e) f h = tt

-- after a test that holds
pub passed : {B : Type 0} (P : B → Type 0) (test : Bool) (reason : Reason) (f : Unit {0} → Result B Reason) → (test ≡ true → IfOk (f tt) P)
    → IfOk (ensure test reason >>= f) P
passed P true reason f h = h refl
passed P false reason f h = tt

-- with what is so of the value
pub with_ok : {A B : Type 0} (Q : A → Type 0) (P : B → Type 0) (r : Result A Reason) (f : A → Result B Reason) → IfOk r Q
    → ((x : A) → Q x → IfOk (f x) P) → IfOk (r >>= f) P
with_ok Q P (Ok x) f q h = h x q
with_ok Q P (Err e) f q h = tt

-- ---- pending sets leave LPIs on or off

on_set : (rs : List Redistributor) (v k : ℕ) (pending : List ℕ)
    → (get_or (set rs v (record (get_or rs v no_redistributor) { pending = pending })) k no_redistributor).accepts ≡ (get_or rs k no_redistributor).accepts
on_set [] v k pending = refl
on_set (r ∷ rs) zero zero pending = refl
on_set (r ∷ rs) zero (suc k) pending = refl
on_set (r ∷ rs) (suc v) zero pending = refl
on_set (r ∷ rs) (suc v) (suc k) pending = on_set rs v k pending

stays_on : (u : Plain) (v k : ℕ) (pending : List ℕ) → is_on (with_pending u v pending) k ≡ is_on u k
stays_on u v k pending = on_set u.redistributors v k pending

moved_on : (u : Plain) (intid from to k : ℕ) → is_on (lpi_moved intid from to u) k ≡ is_on u k
moved_on u intid from to k =
    let once : Plain = lpi_cleared intid from u in
    cond_both (is_pending intid (pending_of u from)) (lpi_set intid to once) u (λ w. is_on w k ≡ is_on u k)
    (λ _. stays_on once to k (with_lpi intid (pending_of once to)) ∙ stays_on u from k (without_lpi intid (pending_of u from))) (λ _. refl)

-- ---- what is pending

module _ (P : Plain → Type 0) (keeps : AreLpisKept P) where
  pub moved_kept : (u : Plain) (intid from to : ℕ) → is_on u to ≡ true → P u → P (lpi_moved intid from to u)
  moved_kept u intid from to on h =
      let once : Plain = lpi_cleared intid from u in
      cond_both (is_pending intid (pending_of u from)) (lpi_set intid to once) u P
      (λ _. keeps.set once intid to (stays_on u from to (without_lpi intid (pending_of u from)) ∙ on) (keeps.cleared u intid from h)) (λ _. h)

  pub all_lpis_kept : (u : Plain) (intids : List ℕ) (from to : ℕ) → is_on u to ≡ true → P u → P (lpis_moved intids from to u)
  all_lpis_kept u [] from to on h = h
  all_lpis_kept u (intid ∷ intids) from to on h =
      all_lpis_kept (lpi_moved intid from to u) intids from to (moved_on u intid from to to ∙ on) (moved_kept u intid from to on h)

  pub followed_kept : (u : Plain) (i icid from to : ℕ) → P u → P (followed u i icid from to)
  followed_kept u i icid from to h =
      cond_both (is_on u from && is_on u to) (lpis_moved (intids_of (maps_of u i) icid) from to u) u P
      (λ on. all_lpis_kept u (intids_of (maps_of u i) icid) from to (and_parts (is_on u from) (is_on u to) on).1 h) (λ _. h)

  pub followed_in_kept : (p : Profile) (u : Plain) (i icid : ℕ) (before : Option Vcpu) (to : ℕ) → P u → P (followed_in p u i icid before to)
  followed_in_kept One u i icid before to h = h
  followed_in_kept Two u i icid None to h = h
  followed_in_kept Two u i icid (Some from) to h =
      cond_both (eqb from.0 to) u (followed u i icid from.0 to) P (λ _. h) (λ _. followed_kept u i icid from.0 to h)

  pub cleared_at_kept : (u : Plain) (intid : ℕ) (o : Option Vcpu) → P u → P (cleared_at intid o u)
  cleared_at_kept u intid None h = h
  cleared_at_kept u intid (Some vcpu) h = keeps.cleared u intid vcpu.0 h

-- ---- commands

module _ (P : Plain → Type 0) (keeps : IsKept P) where
  mapc_kept : (u : Plain) (i icid target : ℕ) → P u → IfOk (mapc u i icid target) P
  unfolding mapc
  mapc_kept u i icid target h =
      let w : Plain = followed_in u.layout.shape.profile u i icid (collection_of (maps_of u i) icid) target in
      after_ok P (ensure (nat_lt target u.layout.shape.vcpus) TargetRange) _ (λ _.
      after_ok P (ensure (nat_lt icid (collection_places (regs_of u i))) CollectionRange) _ (λ _.
      keeps.maps w i (collection_mapped (maps_of w i) icid (record { 0 = target }))
      (followed_in_kept P keeps.lpis u.layout.shape.profile u i icid (collection_of (maps_of u i) icid) target h)))

  mapd_kept : (u : Plain) (i dev bits itt : ℕ) → P u → IfOk (mapd u i dev bits itt) P
  unfolding mapd
  mapd_kept u i dev bits itt h =
      after_ok P (ensure (is_some (device_place (regs_of u i) u.memory dev)) DeviceRange) _ (λ _.
      after_ok P (ensure (nat_le bits 16) SizeRange) _ (λ _.
      keeps.maps u i (device_mapped (maps_of u i) dev (record { itt = record { 0 = itt }; bits = bits })) h))

  unmapd_kept : (u : Plain) (i dev : ℕ) → P u → IfOk (unmapd u i dev) P
  unfolding unmapd
  unmapd_kept u i dev h =
      after_ok P (ensure (is_device_id u.layout.shape.dev_bits dev) DeviceRange) _ (λ _. keeps.maps u i (device_unmapped (maps_of u i) dev) h)

  mapti_kept : (u : Plain) (i dev ev intid icid : ℕ) → P u → IfOk (mapti u i dev ev intid icid) P
  unfolding mapti
  mapti_kept u i dev ev intid icid h =
      let event : Event = record { intid = record { 0 = intid }; icid = record { 0 = icid } } in
      let mapped : Plain = with_maps u i (event_mapped (maps_of u i) dev ev event) in
      after_ok P (ok_or (device_of (maps_of u i) dev) NoDevice) _ (λ device.
      after_ok P (ensure (nat_lt ev (2 ^ device.bits)) EventRange) _ (λ _.
      after_ok P (ensure (is_lpi u.layout.shape.lpi_bits intid) IntidRange) _ (λ _.
      after_ok P (ensure (nat_lt icid (collection_places (regs_of u i))) CollectionRange) _ (λ _.
      cond_both (is_some (event_of (maps_of u i) dev ev)) u (reread (intid ∷ []) mapped) P (λ _. h)
      (λ _. keeps.lpis.reread mapped (intid ∷ []) (keeps.maps u i (event_mapped (maps_of u i) dev ev event) h))))))

  movi_kept : (u : Plain) (i dev ev icid : ℕ) → P u → IfOk (movi u i dev ev icid) P
  unfolding movi
  movi_kept u i dev ev icid h =
      after_ok P (event_at (maps_of u i) dev ev) _ (λ event.
      after_ok P (target_at (maps_of u i) event.icid.0) _ (λ from.
      after_ok P (target_at (maps_of u i) icid) _ (λ to.
      passed P (is_on u from.0 && is_on u to.0) LpisOff _ (λ on.
      let m = event_mapped (maps_of u i) dev ev (record event { icid = record { 0 = icid } }) in
      moved_kept P keeps.lpis (with_maps u i m) event.intid.0 from.0 to.0 (and_parts (is_on u from.0) (is_on u to.0) on).1 (keeps.maps u i m h)))))

  lpi_at_on : (u : Plain) (i dev ev : ℕ) → IfOk (lpi_at u i dev ev) (λ lpi. is_on u lpi.1.0 ≡ true)
  unfolding lpi_at
  lpi_at_on u i dev ev =
      let On : (Intid × Vcpu) → Type 0 = λ lpi. is_on u lpi.1.0 ≡ true in
      after_ok On (event_at (maps_of u i) dev ev) _ (λ event.
      after_ok On (target_at (maps_of u i) event.icid.0) _ (λ vcpu.
      passed On (is_on u vcpu.0) LpisOff _ (λ on. on)))

  int_kept : (u : Plain) (i dev ev : ℕ) → P u → IfOk (int u i dev ev) P
  unfolding int
  int_kept u i dev ev h = with_ok (λ lpi. is_on u lpi.1.0 ≡ true) P (lpi_at u i dev ev) _ (lpi_at_on u i dev ev)
      (λ lpi on. keeps.lpis.set u lpi.0.0 lpi.1.0 on h)

  clear_kept : (u : Plain) (i dev ev : ℕ) → P u → IfOk (clear u i dev ev) P
  unfolding clear
  clear_kept u i dev ev h = after_ok P (lpi_at u i dev ev) _ (λ lpi. keeps.lpis.cleared u lpi.0.0 lpi.1.0 h)

  discard_kept : (u : Plain) (i dev ev : ℕ) → P u → IfOk (discard u i dev ev) P
  unfolding discard
  discard_kept u i dev ev h =
      after_ok P (event_at (maps_of u i) dev ev) _ (λ event.
      cleared_at_kept P keeps.lpis (with_maps u i (event_unmapped (maps_of u i) dev ev)) event.intid.0 (collection_of (maps_of u i) event.icid.0)
      (keeps.maps u i (event_unmapped (maps_of u i) dev ev) h))

  inv_kept : (u : Plain) (i dev ev : ℕ) → P u → IfOk (inv u i dev ev) P
  unfolding inv
  inv_kept u i dev ev h = after_ok P (event_at (maps_of u i) dev ev) _ (λ event. keeps.lpis.reread u (event.intid.0 ∷ []) h)

  invall_kept : (u : Plain) (i icid : ℕ) → P u → IfOk (invall u i icid) P
  unfolding invall
  invall_kept u i icid h = after_ok P (target_at (maps_of u i) icid) _ (λ _. keeps.lpis.reread u (intids_of (maps_of u i) icid) h)

  movall_kept : (u : Plain) (from to : ℕ) → P u → IfOk (movall u from to) P
  unfolding movall
  movall_kept u from to h =
      after_ok P (ensure (nat_lt from u.layout.shape.vcpus && nat_lt to u.layout.shape.vcpus) TargetRange) _ (λ _.
      passed P (is_on u from && is_on u to) LpisOff _ (λ on. keeps.lpis.all_moved u from to (and_parts (is_on u from) (is_on u to) on).1 h))

  -- whichever a test takes
  either : (test : Bool) (x y : Result Plain Reason) → IfOk x P → IfOk y P → IfOk (if test then x else y) P
  either true x y p q = p
  either false x y p q = q

  pub commands_keep : CommandsKeep P
  unfolding ran
  commands_keep u i (command.Movi dev ev icid) h = movi_kept u i dev.0 ev.0 icid.0 h
  commands_keep u i (command.Int dev ev) h = int_kept u i dev.0 ev.0 h
  commands_keep u i (command.Clear dev ev) h = clear_kept u i dev.0 ev.0 h
  commands_keep u i (command.Sync target) h = h
  commands_keep u i (command.Mapd dev bits itt valid) h = either valid _ _ (mapd_kept u i dev.0 bits itt h) (unmapd_kept u i dev.0 h)
  commands_keep u i (command.Mapc icid target valid) h =
      either valid _ _ (mapc_kept u i icid.0 target h) (keeps.maps u i (collection_unmapped (maps_of u i) icid.0) h)
  commands_keep u i (command.Mapti dev ev intid icid) h = mapti_kept u i dev.0 ev.0 intid.0 icid.0 h
  commands_keep u i (command.Mapi dev ev icid) h = mapti_kept u i dev.0 ev.0 ev.0 icid.0 h
  commands_keep u i (command.Inv dev ev) h = inv_kept u i dev.0 ev.0 h
  commands_keep u i (command.Invall icid) h = invall_kept u i icid.0 h
  commands_keep u i (command.Movall from to) h = movall_kept u from to h
  commands_keep u i (command.Discard dev ev) h = discard_kept u i dev.0 ev.0 h
  commands_keep u i (command.Unknown opcode) h = tt
