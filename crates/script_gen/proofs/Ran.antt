-- A command of the script maps no device but the script's own, and touches neither registers nor memory.
use Rattle.std.proofs.Common.{◌≡◌, ℕ, ◌^◌, Bool, true, false, ◌&&◌, is_some, nat_lt, nat_le, List, [], ◌∷◌, length, Option, Some, None, Result, Ok, Err, IfOk}
use Rattle.std.proofs.Common.{refl, sym, ap, subst, ◌∙◌, not, eqb, arith}
use Rattle.std.specs.Prelude.{ok_or, slice_index_or}
use Rattle.std.specs.Ordering.{nat_cmp}
use Rattle.std.specs.Cmp.{nat_cmp_total}
use Rattle.std.specs.FinMap.{FinMap, get, nat_cmp-IsAntisymmetric}
use Rattle.std.proofs.lemmas.Bool.{cond_both}
use Rattle.std.proofs.lemmas.List.{get_or-set_same, length-set}
use Rattle.gits_regs.specs.Registers.{collection_places}
use Rattle.baser_place.specs.Places.{device_place}
use Rattle.its_command.specs.declared.command.Command.{Command}
use Rattle.its_command.specs.declared.command.Command.TheVariants as command
use Rattle.its_types.specs.Lpis.{is_pending}
use Rattle.its_types.specs.Maps.{Maps, device_of, event_of, collection_of, device_mapped, device_unmapped, event_mapped, event_unmapped, collection_mapped}
use Rattle.its_types.specs.Maps.{collection_unmapped}
use Rattle.its_types.specs.Ranges.{is_device_id, is_lpi}
use Rattle.its_types.specs.declared.ids.Vcpu.{Vcpu}
use Rattle.its_types.specs.declared.machine.Profile.{Profile}
use Rattle.its_types.specs.declared.machine.Profile.TheVariants.{One, Two}
use Rattle.its_types.specs.declared.translation.Device.{Device}
use Rattle.its_types.specs.declared.translation.Event.{Event}
use Rattle.its_plain.specs.Plain.{Plain, Translator, no_translator, translator, regs_of, maps_of, pending_of, is_on, with_translator, with_maps}
use Rattle.its_plain.specs.Commands.{ensure, ◌>>=◌, event_at, lpi_at, target_at, cleared_at, lpi_moved, lpi_set, lpi_cleared, all_moved, followed_in}
use Rattle.its_plain.specs.Commands.{intids_of, reread, with_collection, ran, mapd, unmapd, mapc, mapti, movi, discard, int, clear, inv, invall, movall}
use Rattle.its_plain.specs.declared.call.Reason.{Reason}
use Rattle.its_plain.specs.declared.call.Reason.TheVariants.{DeviceRange, SizeRange, TargetRange, CollectionRange, NoDevice, EventRange, IntidRange}
use Rattle.its_plain.specs.declared.call.Reason.TheVariants.{NoCollection, LpisOff}
use Rattle.plain_soundness.proofs.FiniteMaps.{inserted, retained}
use Rattle.plain_soundness.proofs.FiniteMaps.Found.{new, kept}
use Rattle.script_gen.proofs.Invariant.{IsOwn, IsAllowed, AreDevices}

-- ---- a command's steps

passed : {B : Type 0} (P : B → Type 0) (test : Bool) (reason : Reason) (f : Unit {0} → Result B Reason) → (test ≡ true → IfOk (f tt) P)
    → IfOk (ensure test reason >>= f) P
passed P true reason f h = h refl
passed P false reason f h = tt

found : {A B : Type 0} (P : B → Type 0) (o : Option A) (reason : Reason) (f : A → Result B Reason) → ((x : A) → IfOk (f x) P) → IfOk (ok_or o reason >>= f) P
found P None reason f h = tt
found P (Some x) reason f h = h x

given : {A B : Type 0} (P : B → Type 0) (r : Result A Reason) (f : A → Result B Reason) → ((x : A) → IfOk (f x) P) → IfOk (r >>= f) P
given P (Ok x) f h = h x
given P (Err e) f h = tt

-- ---- what a command leaves

-- another state of the same translators and memory
pub record Beside (u v : Plain) : Type 0 where
  pub layout : v.layout ≡ u.layout
  pub translators : v.translators ≡ u.translators
  pub memory : v.memory ≡ u.memory

pub itself : (u : Plain) → Beside u u
itself u = record { layout = refl; translators = refl; memory = refl }

-- with other pending LPIs, or configurations read again
pub set_beside : (u : Plain) (intid vcpu : ℕ) → Beside u (lpi_set intid vcpu u)
set_beside u intid vcpu = record { layout = refl; translators = refl; memory = refl }

cleared_beside : (u : Plain) (intid vcpu : ℕ) → Beside u (lpi_cleared intid vcpu u)
cleared_beside u intid vcpu = record { layout = refl; translators = refl; memory = refl }

reread_beside : (u : Plain) (intids : List ℕ) → Beside u (reread intids u)
reread_beside u intids = record { layout = refl; translators = refl; memory = refl }

moved_beside : (u : Plain) (intid from to : ℕ) → Beside u (lpi_moved intid from to u)
moved_beside u intid from to =
    cond_both (is_pending intid (pending_of u from)) _ _ (Beside u) (λ _. record { layout = refl; translators = refl; memory = refl }) (λ _. itself u)

all_moved_beside : (u : Plain) (from to : ℕ) → Beside u (all_moved from to u)
unfolding all_moved
all_moved_beside u from to = cond_both (eqb from to) _ _ (Beside u) (λ _. itself u) (λ _. record { layout = refl; translators = refl; memory = refl })

cleared_at_beside : (u : Plain) (intid : ℕ) (at : Option Vcpu) → Beside u (cleared_at intid at u)
cleared_at_beside u intid None = itself u
cleared_at_beside u intid (Some vcpu) = cleared_beside u intid vcpu.0

-- the registers and the memory are as they were, and each device is the script's own
pub record IsRan (n : ℕ) (u v : Plain) : Type 0 where
  pub layout : v.layout ≡ u.layout
  pub one : length v.translators ≡ 1
  pub memory : v.memory ≡ u.memory
  pub regs : regs_of v 0 ≡ regs_of u 0
  pub devices : AreDevices n (maps_of v 0)

pub translator_set : (u : Plain) (t : Translator) → length u.translators ≡ 1 → translator (with_translator u 0 t) 0 ≡ t
translator_set u t one = get_or-set_same u.translators 0 t no_translator (omega arith)

then_beside : (n : ℕ) (u w v : Plain) → IsRan n u w → Beside w v → IsRan n u v
then_beside n u w v h same =
    let at_0 : translator v 0 ≡ translator w 0 = ap (λ (ts : List Translator). slice_index_or ts 0 no_translator) same.translators in record {
      layout = same.layout ∙ h.layout;
      one = ap length same.translators ∙ h.one;
      memory = same.memory ∙ h.memory;
      regs = ap (λ (t : Translator). t.regs) at_0 ∙ h.regs;
      devices = subst (λ (t : Translator). AreDevices n t.maps) (sym at_0) h.devices;
    }

with_maps_ran : (n : ℕ) (u : Plain) (m : Maps) → length u.translators ≡ 1 → AreDevices n m → IsRan n u (with_maps u 0 m)
with_maps_ran n u m one devices =
    let at_0 : translator (with_maps u 0 m) 0 ≡ record (translator u 0) { maps = m } = translator_set u (record (translator u 0) { maps = m }) one in record {
      layout = refl;
      one = length-set u.translators 0 (record (translator u 0) { maps = m }) ∙ one;
      memory = refl;
      regs = ap (λ (t : Translator). t.regs) at_0;
      devices = subst (λ (t : Translator). AreDevices n t.maps) (sym at_0) devices;
    }

nothing_ran : (n : ℕ) (u : Plain) → length u.translators ≡ 1 → AreDevices n (maps_of u 0) → IsRan n u u
nothing_ran n u one devices = record { layout = refl; one = one; memory = refl; regs = refl; devices = devices }

beside_ran : (n : ℕ) (u v : Plain) → length u.translators ≡ 1 → AreDevices n (maps_of u 0) → Beside u v → IsRan n u v
beside_ran n u v one devices same = then_beside n u u v (nothing_ran n u one devices) same

-- ---- devices

device_added : (n : ℕ) (m : Maps) (dev : ℕ) (d : Device) → AreDevices n m → IsOwn n dev d.bits d.itt.0 → AreDevices n (device_mapped m dev d)
device_added n m dev d h own q x e =
    elim (inserted nat_cmp nat_cmp_total nat_cmp-IsAntisymmetric m.devices dev d q x e) [
      | new same is ↦ subst (λ (k : ℕ). IsOwn n k x.bits x.itt.0) (sym same) (subst (λ (y : Device). IsOwn n dev y.bits y.itt.0) is own)
      | kept old ↦ h q x old
    ]

device_removed : (n : ℕ) (m : Maps) (dev : ℕ) → AreDevices n m → AreDevices n (device_unmapped m dev)
device_removed n m dev h q x e = h q x (retained nat_cmp nat_cmp_total nat_cmp-IsAntisymmetric m.devices (λ k. not (eqb k dev)) q x e).1

-- ---- commands

module _ (n : ℕ) (u : Plain) (one : length u.translators ≡ 1) (devices : AreDevices n (maps_of u 0)) where
  -- where a part of the maps other than the devices changes
  same_devices : (m : Maps) → m.devices ≡ (maps_of u 0).devices → IsRan n u (with_maps u 0 m)
  same_devices m same = with_maps_ran n u m one (subst (λ (ds : FinMap nat_cmp Device). (dev : ℕ) (d : Device) → get ds dev ≡ Some d
      → IsOwn n dev d.bits d.itt.0) (sym same) devices)

  mapd_ran : (dev bits itt : ℕ) → IsOwn n dev bits itt → IfOk (mapd u 0 dev bits itt) (IsRan n u)
  unfolding mapd
  mapd_ran dev bits itt own =
      let device : Device = record { itt = record { 0 = itt }; bits = bits } in
      passed (IsRan n u) (is_some (device_place (regs_of u 0) u.memory dev)) DeviceRange _ (λ _.
      passed (IsRan n u) (nat_le bits 16) SizeRange _ (λ _.
      with_maps_ran n u (device_mapped (maps_of u 0) dev device) one (device_added n (maps_of u 0) dev device devices own)))

  unmapd_ran : (dev : ℕ) → IfOk (unmapd u 0 dev) (IsRan n u)
  unfolding unmapd
  unmapd_ran dev =
      passed (IsRan n u) (is_device_id u.layout.shape.dev_bits dev) DeviceRange _ (λ _.
      with_maps_ran n u (device_unmapped (maps_of u 0) dev) one (device_removed n (maps_of u 0) dev devices))

  -- profile 1, in which pending LPIs stay
  followed_beside : (p : Profile) (icid : ℕ) (before : Option Vcpu) (to : ℕ) → p ≡ One → followed_in p u 0 icid before to ≡ u
  followed_beside One icid before to e = refl
  followed_beside Two icid before to e = absurd cc

  mapc_ran : (icid target : ℕ) → u.layout.shape.profile ≡ One → IfOk (mapc u 0 icid target) (IsRan n u)
  unfolding mapc
  mapc_ran icid target profile =
      passed (IsRan n u) (nat_lt target u.layout.shape.vcpus) TargetRange _ (λ _.
      passed (IsRan n u) (nat_lt icid (collection_places (regs_of u 0))) CollectionRange _ (λ _.
      let stays : followed_in u.layout.shape.profile u 0 icid (collection_of (maps_of u 0) icid) target ≡ u =
      followed_beside u.layout.shape.profile icid (collection_of (maps_of u 0) icid) target profile in
      subst (λ (w : Plain). IsRan n u (with_collection w 0 icid target)) (sym stays)
      (same_devices (collection_mapped (maps_of u 0) icid (record { 0 = target })) refl)))

  mapti_ran : (dev ev intid icid : ℕ) → IfOk (mapti u 0 dev ev intid icid) (IsRan n u)
  unfolding mapti
  mapti_ran dev ev intid icid =
      let event : Event = record { intid = record { 0 = intid }; icid = record { 0 = icid } } in
      let mapped : Plain = with_maps u 0 (event_mapped (maps_of u 0) dev ev event) in
      found (IsRan n u) (device_of (maps_of u 0) dev) NoDevice _ (λ device.
      passed (IsRan n u) (nat_lt ev (2 ^ device.bits)) EventRange _ (λ _.
      passed (IsRan n u) (is_lpi u.layout.shape.lpi_bits intid) IntidRange _ (λ _.
      passed (IsRan n u) (nat_lt icid (collection_places (regs_of u 0))) CollectionRange _ (λ _.
      cond_both (is_some (event_of (maps_of u 0) dev ev)) u (reread (intid ∷ []) mapped) (IsRan n u) (λ _. nothing_ran n u one devices) (λ _.
      then_beside n u mapped (reread (intid ∷ []) mapped) (same_devices (event_mapped (maps_of u 0) dev ev event) refl) (reread_beside mapped (intid ∷ [])))))))

  movi_ran : (dev ev icid : ℕ) → IfOk (movi u 0 dev ev icid) (IsRan n u)
  unfolding movi
  movi_ran dev ev icid =
      given (IsRan n u) (event_at (maps_of u 0) dev ev) _ (λ event.
      found (IsRan n u) (collection_of (maps_of u 0) event.icid.0) NoCollection _ (λ from.
      found (IsRan n u) (collection_of (maps_of u 0) icid) NoCollection _ (λ to.
      passed (IsRan n u) (is_on u from.0 && is_on u to.0) LpisOff _ (λ _.
      let m : Maps = event_mapped (maps_of u 0) dev ev (record event { icid = record { 0 = icid } }) in
      then_beside n u (with_maps u 0 m) (lpi_moved event.intid.0 from.0 to.0 (with_maps u 0 m)) (same_devices m refl)
      (moved_beside (with_maps u 0 m) event.intid.0 from.0 to.0)))))

  discard_ran : (dev ev : ℕ) → IfOk (discard u 0 dev ev) (IsRan n u)
  unfolding discard
  discard_ran dev ev =
      given (IsRan n u) (event_at (maps_of u 0) dev ev) _ (λ event.
      let m : Maps = event_unmapped (maps_of u 0) dev ev in
      let at : Option Vcpu = collection_of (maps_of u 0) event.icid.0 in
      then_beside n u (with_maps u 0 m) (cleared_at event.intid.0 at (with_maps u 0 m)) (same_devices m refl)
      (cleared_at_beside (with_maps u 0 m) event.intid.0 at))

  int_ran : (dev ev : ℕ) → IfOk (int u 0 dev ev) (IsRan n u)
  unfolding int
  int_ran dev ev = given (IsRan n u) (lpi_at u 0 dev ev) _ (λ lpi. beside_ran n u (lpi_set lpi.0.0 lpi.1.0 u) one devices (set_beside u lpi.0.0 lpi.1.0))

  clear_ran : (dev ev : ℕ) → IfOk (clear u 0 dev ev) (IsRan n u)
  unfolding clear
  clear_ran dev ev = given (IsRan n u) (lpi_at u 0 dev ev) _ (λ lpi. beside_ran n u (lpi_cleared lpi.0.0 lpi.1.0 u) one devices
      (cleared_beside u lpi.0.0 lpi.1.0))

  inv_ran : (dev ev : ℕ) → IfOk (inv u 0 dev ev) (IsRan n u)
  unfolding inv
  inv_ran dev ev = given (IsRan n u) (event_at (maps_of u 0) dev ev) _ (λ event. beside_ran n u (reread (event.intid.0 ∷ []) u) one devices
      (reread_beside u (event.intid.0 ∷ [])))

  invall_ran : (icid : ℕ) → IfOk (invall u 0 icid) (IsRan n u)
  unfolding invall
  invall_ran icid = given (IsRan n u) (target_at (maps_of u 0) icid) _ (λ _. beside_ran n u (reread (intids_of (maps_of u 0) icid) u) one devices
      (reread_beside u (intids_of (maps_of u 0) icid)))

  movall_ran : (from to : ℕ) → IfOk (movall u from to) (IsRan n u)
  unfolding movall
  movall_ran from to =
      passed (IsRan n u) (nat_lt from u.layout.shape.vcpus && nat_lt to u.layout.shape.vcpus) TargetRange _ (λ _.
      passed (IsRan n u) (is_on u from && is_on u to) LpisOff _ (λ _. beside_ran n u (all_moved from to u) one devices (all_moved_beside u from to)))

  pub command_ran : (c : Command) → u.layout.shape.profile ≡ One → IsAllowed n c → IfOk (ran u 0 c) (IsRan n u)
  unfolding ran
  command_ran (command.Movi dev ev icid) profile allowed = movi_ran dev.0 ev.0 icid.0
  command_ran (command.Int dev ev) profile allowed = int_ran dev.0 ev.0
  command_ran (command.Clear dev ev) profile allowed = clear_ran dev.0 ev.0
  command_ran (command.Sync target) profile allowed = nothing_ran n u one devices
  command_ran (command.Mapd dev bits itt true) profile allowed = mapd_ran dev.0 bits itt (allowed refl)
  command_ran (command.Mapd dev bits itt false) profile allowed = unmapd_ran dev.0
  command_ran (command.Mapc icid target true) profile allowed = mapc_ran icid.0 target profile
  command_ran (command.Mapc icid target false) profile allowed = same_devices (collection_unmapped (maps_of u 0) icid.0) refl
  command_ran (command.Mapti dev ev intid icid) profile allowed = mapti_ran dev.0 ev.0 intid.0 icid.0
  command_ran (command.Mapi dev ev icid) profile allowed = mapti_ran dev.0 ev.0 ev.0 icid.0
  command_ran (command.Inv dev ev) profile allowed = inv_ran dev.0 ev.0
  command_ran (command.Invall icid) profile allowed = invall_ran icid.0
  command_ran (command.Movall from to) profile allowed = movall_ran from to
  command_ran (command.Discard dev ev) profile allowed = discard_ran dev.0 ev.0
  command_ran (command.Unknown opcode) profile allowed = tt
