-- A command comes to the same on the parts in hand and in the state that they are of.
use Rattle.std.proofs.Common.{◌≡◌, ℕ, ◌^◌, ◌<◌, Bool, true, false, ◌&&◌, cond, eqb, nat_lt, nat_le, [], ◌∷◌, Option, Some, None, Result, Ok, refl, ap}
use Rattle.std.proofs.Common.{subst, ◌∙◌}
use Rattle.std.specs.Prelude.{is_some}
use Rattle.std.proofs.lemmas.Bool.{ltb-true, and_parts, both_ways}
use Rattle.gits_regs.specs.Registers.{Registers, collection_places}
use Rattle.baser_place.specs.Places.{device_place}
use Rattle.its_command.specs.declared.command.Command.{Command}
use Rattle.its_command.specs.declared.command.Command.TheVariants as command
use Rattle.its_types.specs.Ranges.{is_device_id, is_lpi}
use Rattle.its_types.specs.Maps.{Maps, device_of, event_of, collection_of, event_mapped}
use Rattle.its_types.specs.declared.ids.DeviceId.{DeviceId}
use Rattle.its_types.specs.declared.ids.EventId.{EventId}
use Rattle.its_types.specs.declared.ids.Icid.{Icid}
use Rattle.its_types.specs.declared.ids.Intid.{Intid}
use Rattle.its_types.specs.declared.ids.Vcpu.{Vcpu}
use Rattle.its_types.specs.declared.machine.Profile.{Profile}
use Rattle.its_types.specs.declared.machine.Profile.TheVariants.{One, Two}
use Rattle.its_plain.specs.Plain.{Plain, regs_of, maps_of, is_on, with_maps}
use Rattle.its_plain.specs.Parts.{target_of_event}
use Rattle.its_plain.specs.Commands as plain
use Rattle.its_plain.specs.Commands.{◌>>=◌, event_at, intids_of, lpis_moved, followed_in, with_collection, reread, lpi_set, lpi_cleared}
use Rattle.its_plain.specs.declared.call.Reason.{Reason}
use Rattle.its_plain.specs.declared.call.Reason.TheVariants.{DeviceRange, SizeRange, TargetRange, CollectionRange, NoDevice, EventRange, IntidRange}
use Rattle.its_plain.specs.declared.call.Reason.TheVariants.{NoCollection, LpisOff}
use Rattle.lpi_pending.specs.InHand.{RedistParts, pend_in}
use Rattle.owned_parts.specs.Owned.{AreRedistributorsOf}
use Rattle.cmd_exec.specs.declared.effect.Effect.{Effect}
use Rattle.cmd_exec.specs.declared.effect.Effect.TheVariants as effect
use Rattle.cmd_exec.specs.InHand.{is_on_in}
use Rattle.cmd_exec.specs.Effects as parts
use Rattle.cmd_exec.specs.Effects.{targeted, moved}
use Rattle.cmd_exec.specs.Needs.{AreNeededInHand}
use Rattle.cmd_exec.specs.Ready.{IsTargetInHand, AreBothInHand, AreTargetsInHand}
use Rattle.cmd_exec.proofs.Steps.{by, test_same, test_when, option_same, result_same, itself, by_itself, target_is}
use Rattle.cmd_exec.proofs.Lifted.{left, on_same}
use Rattle.cmd_exec.proofs.Targets.{movi_old, movi_new, int_target, clear_target, mapc_targets, movall_targets}

target_held : (rs : RedistParts) (o : Option Vcpu) (v : Vcpu) → o ≡ Some v → IsTargetInHand rs o → is_some (pend_in rs v.0) ≡ true
target_held rs o v e h = subst (IsTargetInHand rs) e h

module _ (u : Plain) (i : ℕ) (rs : RedistParts) (are : AreRedistributorsOf u rs) where
  abbrev m : Maps
  m = maps_of u i

  abbrev r : Registers
  r = regs_of u i

  abbrev end : Effect → Plain
  end = left u i m

  abbrev Same : Result Plain Reason → Result Effect Reason → Type 0
  Same a b = a ≡ by end b

  both_same : (v w : ℕ) → is_some (pend_in rs v) ≡ true → is_some (pend_in rs w) ≡ true → (is_on u v && is_on u w) ≡ (is_on_in rs v && is_on_in rs w)
  both_same v w hv hw = ap (λ (b : Bool). b && is_on u w) (on_same u rs v are hv) ∙ ap (λ (b : Bool). is_on_in rs v && b) (on_same u rs w are hw)

  -- ---- devices and collections

  mapd_same : (dev : DeviceId) (bits itt : ℕ) → Same (plain.mapd u i dev.0 bits itt) (parts.mapd r u.memory dev bits itt)
  unfolding plain.mapd parts.mapd
  mapd_same dev bits itt =
      test_same end (is_some (device_place r u.memory dev.0)) (is_some (device_place r u.memory dev.0)) DeviceRange _ _ refl
      (test_same end (nat_le bits 16) (nat_le bits 16) SizeRange _ _ refl refl)

  unmapd_same : (dev : DeviceId) → Same (plain.unmapd u i dev.0) (parts.unmapd u.layout.shape dev)
  unfolding plain.unmapd parts.unmapd
  unmapd_same dev = test_same end (is_device_id u.layout.shape.dev_bits dev.0) (is_device_id u.layout.shape.dev_bits dev.0) DeviceRange _ _ refl refl

  targeted_same : (p : Profile) (icid : Icid) (o : Option Vcpu) (to : Vcpu) → AreTargetsInHand rs p o to.0
      → with_collection (followed_in p u i icid.0 o to.0) i icid.0 to.0 ≡ end (targeted p rs icid o to)
  targeted_same One icid o to h = refl
  targeted_same Two icid None to h = refl
  targeted_same Two icid (Some from) to h = by_same (eqb from.0 to.0) h
    where
      by_on : (b b' : Bool) → b ≡ b' → with_collection (cond b (lpis_moved (intids_of m icid.0) from.0 to.0 u) u) i icid.0 to.0 ≡ end
          (cond b' (effect.MoveCollection icid from to) (effect.MapCollection icid to))
      by_on true true e = refl
      by_on false false e = refl
      by_on true false e = absurd (both_ways true e refl)
      by_on false true e = absurd (both_ways false refl e)

      by_same : (t : Bool) → (t ≡ false → (is_some (pend_in rs from.0) ≡ true) × (is_some (pend_in rs to.0) ≡ true))
          → with_collection (cond t u (plain.followed u i icid.0 from.0 to.0)) i icid.0 to.0 ≡ end
          (cond t (effect.MapCollection icid to) (moved rs icid from to))
      by_same true g = refl
      by_same false g = by_on (is_on u from.0 && is_on u to.0) (is_on_in rs from.0 && is_on_in rs to.0) (both_same from.0 to.0 (g refl).0 (g refl).1)

  mapc_same : (icid : Icid) (target : ℕ) → (target < u.layout.shape.vcpus → AreTargetsInHand rs u.layout.shape.profile (collection_of m icid.0) target)
      → Same (plain.mapc u i icid.0 target) (parts.mapc u.layout.shape r m rs icid target)
  unfolding plain.mapc parts.mapc
  mapc_same icid target h =
      let ok : Plain → Result Plain Reason = λ (x : Plain). Ok x in
      test_when end (nat_lt target u.layout.shape.vcpus) TargetRange _ _ (λ below.
      test_same end (nat_lt icid.0 (collection_places r)) (nat_lt icid.0 (collection_places r)) CollectionRange _ _ refl
      (ap ok (targeted_same u.layout.shape.profile icid (collection_of m icid.0) (record { 0 = target }) (h (ltb-true target u.layout.shape.vcpus below)))))

  -- ---- events

  mapti_same : (dev : DeviceId) (ev : EventId) (intid : Intid) (icid : Icid) → Same (plain.mapti u i dev.0 ev.0 intid.0 icid.0)
      (parts.mapti u.layout.shape r m dev ev intid icid)
  unfolding plain.mapti parts.mapti
  mapti_same dev ev intid icid =
      option_same end (device_of m dev.0) NoDevice _ _ (λ device _.
      test_same end (nat_lt ev.0 (2 ^ device.bits)) (nat_lt ev.0 (2 ^ device.bits)) EventRange _ _ refl
      (test_same end (is_lpi u.layout.shape.lpi_bits intid.0) (is_lpi u.layout.shape.lpi_bits intid.0) IntidRange _ _ refl
      (test_same end (nat_lt icid.0 (collection_places r)) (nat_lt icid.0 (collection_places r)) CollectionRange _ _ refl
      (by_mapped (is_some (event_of m dev.0 ev.0))))))
    where
      by_mapped : (b : Bool) → Same (Ok (cond b u (reread (intid.0 ∷ []) (with_maps u i (event_mapped m dev.0 ev.0 (record { intid = intid; icid = icid }))))))
          (Ok (cond b effect.Nothing (effect.MapEvent dev ev (record { intid = intid; icid = icid }))))
      by_mapped true = refl
      by_mapped false = refl

  movi_same : (dev : DeviceId) (ev : EventId) (icid : Icid) → IsTargetInHand rs (target_of_event m dev.0 ev.0) → IsTargetInHand rs (collection_of m icid.0)
      → Same (plain.movi u i dev.0 ev.0 icid.0) (parts.movi m rs dev ev icid)
  unfolding plain.movi parts.movi
  movi_same dev ev icid old new =
      result_same end (event_at m dev.0 ev.0) _ _ (λ event at.
      option_same end (collection_of m event.icid.0) NoCollection _ _ (λ from is_from.
      option_same end (collection_of m icid.0) NoCollection _ _ (λ to is_to.
      test_same end (is_on u from.0 && is_on u to.0) (is_on_in rs from.0 && is_on_in rs to.0) LpisOff _ _
      (both_same from.0 to.0 (target_held rs (target_of_event m dev.0 ev.0) from (target_is m dev.0 ev.0 event at ∙ is_from) old)
      (target_held rs (collection_of m icid.0) to is_to new)) refl)))

  lpi_same : (dev : DeviceId) (ev : EventId) → IsTargetInHand rs (target_of_event m dev.0 ev.0) → plain.lpi_at u i dev.0 ev.0 ≡ parts.lpi_at m rs dev ev
  unfolding plain.lpi_at parts.lpi_at
  lpi_same dev ev target =
      let same : Intid × Vcpu → Intid × Vcpu = itself in
      result_same same (event_at m dev.0 ev.0) _ _ (λ event at.
      option_same same (collection_of m event.icid.0) NoCollection _ _ (λ vcpu is.
      test_same same (is_on u vcpu.0) (is_on_in rs vcpu.0) LpisOff _ _
      (on_same u rs vcpu.0 are (target_held rs (target_of_event m dev.0 ev.0) vcpu (target_is m dev.0 ev.0 event at ∙ is) target)) refl))
      ∙ by_itself (parts.lpi_at m rs dev ev)

  int_same : (dev : DeviceId) (ev : EventId) → IsTargetInHand rs (target_of_event m dev.0 ev.0) → Same (plain.int u i dev.0 ev.0) (parts.int m rs dev ev)
  unfolding plain.int parts.int
  int_same dev ev target =
      ap (λ (x : Result (Intid × Vcpu) Reason). x >>= λ lpi. Ok (lpi_set lpi.0.0 lpi.1.0 u)) (lpi_same dev ev target)
      ∙ result_same end (parts.lpi_at m rs dev ev) _ _ (λ lpi _. refl)

  clear_same : (dev : DeviceId) (ev : EventId) → IsTargetInHand rs (target_of_event m dev.0 ev.0) → Same (plain.clear u i dev.0 ev.0) (parts.clear m rs dev ev)
  unfolding plain.clear parts.clear
  clear_same dev ev target =
      ap (λ (x : Result (Intid × Vcpu) Reason). x >>= λ lpi. Ok (lpi_cleared lpi.0.0 lpi.1.0 u)) (lpi_same dev ev target)
      ∙ result_same end (parts.lpi_at m rs dev ev) _ _ (λ lpi _. refl)

  discard_same : (dev : DeviceId) (ev : EventId) → Same (plain.discard u i dev.0 ev.0) (parts.discard m dev ev)
  unfolding plain.discard parts.discard
  discard_same dev ev = result_same end (event_at m dev.0 ev.0) _ _ (λ event _. refl)

  -- ---- configurations and redistributors

  inv_same : (dev : DeviceId) (ev : EventId) → Same (plain.inv u i dev.0 ev.0) (parts.inv m dev ev)
  unfolding plain.inv parts.inv
  inv_same dev ev = result_same end (event_at m dev.0 ev.0) _ _ (λ event _. refl)

  invall_same : (icid : Icid) → Same (plain.invall u i icid.0) (parts.invall m icid)
  unfolding plain.invall parts.invall
  invall_same icid = option_same end (collection_of m icid.0) NoCollection _ _ (λ _ _. refl)

  movall_same : (from to : ℕ) → (from < u.layout.shape.vcpus → to < u.layout.shape.vcpus → AreBothInHand rs from to)
      → Same (plain.movall u from to) (parts.movall u.layout.shape rs from to)
  unfolding plain.movall parts.movall
  movall_same from to h =
      let n = u.layout.shape.vcpus in
      test_when end (nat_lt from n && nat_lt to n) TargetRange _ _ (λ below.
      let both = and_parts (nat_lt from n) (nat_lt to n) below in
      let held = h (ltb-true from n both.0) (ltb-true to n both.1) in
      test_same end (is_on u from && is_on u to) (is_on_in rs from && is_on_in rs to) LpisOff _ _ (both_same from to held.0 held.1) refl)

  -- ---- all commands

  pub planned_same : (c : Command) → AreNeededInHand u.layout.shape m c rs → plain.ran u i c ≡ by (left u i (maps_of u i))
      (parts.planned u.layout.shape (regs_of u i) (maps_of u i) u.memory rs c)
  unfolding plain.ran parts.planned
  planned_same (command.Movi dev ev icid) h = movi_same dev ev icid (movi_old u.layout.shape m rs dev ev icid h) (movi_new u.layout.shape m rs dev ev icid h)
  planned_same (command.Int dev ev) h = int_same dev ev (int_target u.layout.shape m rs dev ev h)
  planned_same (command.Clear dev ev) h = clear_same dev ev (clear_target u.layout.shape m rs dev ev h)
  planned_same (command.Sync target) h = refl
  planned_same (command.Mapd dev bits itt true) h = mapd_same dev bits itt
  planned_same (command.Mapd dev bits itt false) h = unmapd_same dev
  planned_same (command.Mapc icid target true) h = mapc_same icid target (mapc_targets u.layout.shape m rs icid target h)
  planned_same (command.Mapc icid target false) h = refl
  planned_same (command.Mapti dev ev intid icid) h = mapti_same dev ev intid icid
  planned_same (command.Mapi dev ev icid) h = mapti_same dev ev (record { 0 = ev.0 }) icid
  planned_same (command.Inv dev ev) h = inv_same dev ev
  planned_same (command.Invall icid) h = invall_same icid
  planned_same (command.Movall from to) h = movall_same from to (movall_targets u.layout.shape m rs from to h)
  planned_same (command.Discard dev ev) h = discard_same dev ev
  planned_same (command.Unknown opcode) h = refl
