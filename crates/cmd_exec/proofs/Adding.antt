-- What is planned adds to the maps what the command adds.
use Rattle.std.proofs.Common.{◌≡◌, ℕ, ◌^◌, Bool, true, false, ◌&&◌, not, eqb, nat_lt, nat_le, List, Option, Some, None, Result, IfOk, refl, sym, ap, ◌∙◌}
use Rattle.std.specs.Prelude.{is_some}
use Rattle.std.proofs.lemmas.Bool.{cond_both}
use Rattle.baser_place.specs.Places.{device_place}
use Rattle.gits_regs.specs.Registers.{Registers, collection_places}
use Rattle.guest_windows.specs.Windows.{Window}
use Rattle.its_command.specs.declared.command.Command.{Command}
use Rattle.its_command.specs.declared.command.Command.TheVariants as command
use Rattle.its_types.specs.Ranges.{is_device_id, is_lpi}
use Rattle.its_types.specs.Maps.{Maps, device_of, event_of, collection_of}
use Rattle.its_types.specs.declared.ids.DeviceId.{DeviceId}
use Rattle.its_types.specs.declared.ids.EventId.{EventId}
use Rattle.its_types.specs.declared.ids.Icid.{Icid}
use Rattle.its_types.specs.declared.ids.Intid.{Intid}
use Rattle.its_types.specs.declared.ids.Vcpu.{Vcpu}
use Rattle.its_types.specs.declared.machine.Profile.{Profile}
use Rattle.its_types.specs.declared.machine.Profile.TheVariants.{One, Two}
use Rattle.its_types.specs.declared.machine.Shape.{Shape}
use Rattle.its_types.specs.declared.translation.Event.{Event}
use Rattle.its_plain.specs.Commands.{event_at}
use Rattle.its_plain.specs.declared.call.Reason.{Reason}
use Rattle.its_plain.specs.declared.call.Reason.TheVariants.{DeviceRange, SizeRange, TargetRange, CollectionRange, NoDevice, EventRange, IntidRange}
use Rattle.its_plain.specs.declared.call.Reason.TheVariants.{NoCollection, LpisOff}
use Rattle.lpi_pending.specs.InHand.{RedistParts}
use Rattle.cmd_exec.specs.declared.effect.Effect.{Effect}
use Rattle.cmd_exec.specs.declared.effect.Effect.TheVariants as effect
use Rattle.cmd_exec.specs.InHand.{is_on_in}
use Rattle.cmd_exec.specs.Effects as parts
use Rattle.cmd_exec.specs.Effects.{targeted, moved, added}
use Rattle.cmd_exec.specs.Room.{grows, adds_event, effect_adds}
use Rattle.cmd_exec.proofs.Steps.{passed, found, ran}

module _ (s : Shape) (r : Registers) (m : Maps) (memory : List Window) (rs : RedistParts) where
  abbrev Is : Bool → Effect → Type 0
  Is b e = effect_adds m e ≡ b

  abbrev If : Bool → Result Effect Reason → Type 0
  If b x = IfOk x (Is b)

  mapd_adds : (dev : DeviceId) (bits itt : ℕ) → If (not (is_some (device_of m dev.0))) (parts.mapd r memory dev bits itt)
  unfolding parts.mapd effect_adds
  mapd_adds dev bits itt =
      let P = Is (not (is_some (device_of m dev.0))) in
      passed P (is_some (device_place r memory dev.0)) DeviceRange _ (λ _. passed P (nat_le bits 16) SizeRange _ (λ _. refl))

  unmapd_adds : (dev : DeviceId) → If false (parts.unmapd s dev)
  unfolding parts.unmapd effect_adds
  unmapd_adds dev = passed (Is false) (is_device_id s.dev_bits dev.0) DeviceRange _ (λ _. refl)

  targeted_adds : (p : Profile) (icid : Icid) (o : Option Vcpu) (to : Vcpu) → collection_of m icid.0 ≡ o → Is (not (is_some o)) (targeted p rs icid o to)
  unfolding effect_adds
  targeted_adds One icid o to is = ap (λ (x : Option Vcpu). not (is_some x)) is
  targeted_adds Two icid None to is = ap (λ (x : Option Vcpu). not (is_some x)) is
  targeted_adds Two icid (Some from) to is =
      let mapped : Is false (effect.MapCollection icid to) = ap (λ (x : Option Vcpu). not (is_some x)) is in
      cond_both (eqb from.0 to.0) (effect.MapCollection icid to) (moved rs icid from to) (Is false) (λ _. mapped)
      (λ _. cond_both (is_on_in rs from.0 && is_on_in rs to.0) (effect.MoveCollection icid from to) (effect.MapCollection icid to) (Is false) (λ _. refl)
      (λ _. mapped))

  mapc_adds : (icid : Icid) (target : ℕ) → If (not (is_some (collection_of m icid.0))) (parts.mapc s r m rs icid target)
  unfolding parts.mapc
  mapc_adds icid target =
      let P = Is (not (is_some (collection_of m icid.0))) in
      passed P (nat_lt target s.vcpus) TargetRange _ (λ _.
      passed P (nat_lt icid.0 (collection_places r)) CollectionRange _ (λ _. targeted_adds s.profile icid (collection_of m icid.0)
      (record { 0 = target }) refl))

  added_adds : (dev : DeviceId) (ev : EventId) (event : Event) → Is (adds_event m dev.0 ev.0) (added m dev ev event)
  unfolding effect_adds
  added_adds dev ev event =
      cond_both (is_some (event_of m dev.0 ev.0)) effect.Nothing (effect.MapEvent dev ev event) (Is (adds_event m dev.0 ev.0))
      (λ mapped. sym (ap (λ (b : Bool). is_some (device_of m dev.0) && not b) mapped ∙ and_false (is_some (device_of m dev.0)))) (λ _. refl)
    where
      and_false : (b : Bool) → (b && false) ≡ false
      and_false true = refl
      and_false false = refl

  mapti_adds : (dev : DeviceId) (ev : EventId) (intid : Intid) (icid : Icid) → If (adds_event m dev.0 ev.0) (parts.mapti s r m dev ev intid icid)
  unfolding parts.mapti
  mapti_adds dev ev intid icid =
      let P = Is (adds_event m dev.0 ev.0) in
      found P (device_of m dev.0) NoDevice _ (λ device is.
      passed P (nat_lt ev.0 (2 ^ device.bits)) EventRange _ (λ _.
      passed P (is_lpi s.lpi_bits intid.0) IntidRange _ (λ _.
      passed P (nat_lt icid.0 (collection_places r)) CollectionRange _ (λ _. added_adds dev ev (record { intid = intid; icid = icid })))))

  movi_adds : (dev : DeviceId) (ev : EventId) (icid : Icid) → If false (parts.movi m rs dev ev icid)
  unfolding parts.movi effect_adds
  movi_adds dev ev icid =
      let P = Is false in
      ran P (event_at m dev.0 ev.0) _ (λ event _.
      found P (collection_of m event.icid.0) NoCollection _ (λ from _.
      found P (collection_of m icid.0) NoCollection _ (λ to _. passed P (is_on_in rs from.0 && is_on_in rs to.0) LpisOff _ (λ _. refl))))

  int_adds : (dev : DeviceId) (ev : EventId) → If false (parts.int m rs dev ev)
  unfolding parts.int effect_adds
  int_adds dev ev = ran (Is false) (parts.lpi_at m rs dev ev) _ (λ lpi _. refl)

  clear_adds : (dev : DeviceId) (ev : EventId) → If false (parts.clear m rs dev ev)
  unfolding parts.clear effect_adds
  clear_adds dev ev = ran (Is false) (parts.lpi_at m rs dev ev) _ (λ lpi _. refl)

  discard_adds : (dev : DeviceId) (ev : EventId) → If false (parts.discard m dev ev)
  unfolding parts.discard effect_adds
  discard_adds dev ev = ran (Is false) (event_at m dev.0 ev.0) _ (λ event _. refl)

  inv_adds : (dev : DeviceId) (ev : EventId) → If false (parts.inv m dev ev)
  unfolding parts.inv effect_adds
  inv_adds dev ev = ran (Is false) (event_at m dev.0 ev.0) _ (λ event _. refl)

  invall_adds : (icid : Icid) → If false (parts.invall m icid)
  unfolding parts.invall effect_adds
  invall_adds icid = found (Is false) (collection_of m icid.0) NoCollection _ (λ _ _. refl)

  movall_adds : (from to : ℕ) → If false (parts.movall s rs from to)
  unfolding parts.movall effect_adds
  movall_adds from to =
      passed (Is false) (nat_lt from s.vcpus && nat_lt to s.vcpus) TargetRange _ (λ _. passed (Is false) (is_on_in rs from && is_on_in rs to) LpisOff _
      (λ _. refl))

  -- an effect adds something just where its command does
  pub planned_adds : (c : Command) → If (grows m c) (parts.planned s r m memory rs c)
  unfolding parts.planned grows effect_adds
  planned_adds (command.Movi dev ev icid) = movi_adds dev ev icid
  planned_adds (command.Int dev ev) = int_adds dev ev
  planned_adds (command.Clear dev ev) = clear_adds dev ev
  planned_adds (command.Sync target) = refl
  planned_adds (command.Mapd dev bits itt true) = mapd_adds dev bits itt
  planned_adds (command.Mapd dev bits itt false) = unmapd_adds dev
  planned_adds (command.Mapc icid target true) = mapc_adds icid target
  planned_adds (command.Mapc icid target false) = refl
  planned_adds (command.Mapti dev ev intid icid) = mapti_adds dev ev intid icid
  planned_adds (command.Mapi dev ev icid) = mapti_adds dev ev (record { 0 = ev.0 }) icid
  planned_adds (command.Inv dev ev) = inv_adds dev ev
  planned_adds (command.Invall icid) = invall_adds icid
  planned_adds (command.Movall from to) = movall_adds from to
  planned_adds (command.Discard dev ev) = discard_adds dev ev
  planned_adds (command.Unknown opcode) = tt
