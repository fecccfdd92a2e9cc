-- A call's footprint is the same in all states that have it in common.
use Rattle.std.proofs.Common.{◌≡◌, ℕ, not, ◌||◌, ◌&&◌, nat_lt, List, [], ◌∷◌, ◌++◌, Option, Some, None, refl, ap, ◌∙◌, if◌then◌else◌}
use Rattle.std.specs.Option.{option_map}
use Rattle.std.specs.Result.{result_ok}
use Rattle.guest_windows.specs.Windows.{read_at}
use Rattle.gits_regs.specs.Registers.{queue_place, is_queue_empty}
use Rattle.its_command.specs.Commands.{decoded}
use Rattle.its_command.specs.declared.command.Command.{Command}
use Rattle.its_command.specs.declared.command.Command.TheVariants as command
use Rattle.its_types.specs.Maps.{Maps, collection_of}
use Rattle.its_types.specs.declared.machine.Part.{Part}
use Rattle.its_types.specs.declared.machine.Part.TheVariants.{Maps as MapsOf, Mem, Conf}
use Rattle.gicr_regs.specs.Registers.{asked_by}
use Rattle.its_plain.specs.Plain.{Plain, Translator, ConfState, translator, redistributor, maps_of}
use Rattle.its_plain.specs.declared.layout.Layout.{Layout}
use Rattle.its_plain.specs.Translation.{located}
use Rattle.its_plain.specs.Answer.{is_idle, next_bytes}
use Rattle.its_plain.specs.Parts.{AgreesOn, translators_below, confs_below, pends_below, pend_at, target_of_event, moved_targets, both_targets, needed}
use Rattle.its_plain.specs.Parts.{signal_parts, route_parts, write_parts, footprint}
use Rattle.its_plain.specs.declared.call.Call.{Call}
use Rattle.its_plain.specs.declared.call.Call.TheVariants as call
use Rattle.its_plain.specs.declared.call.Route.{Route}
use Rattle.its_plain.specs.declared.call.Route.TheVariants as route
use Rattle.plain_footprint.proofs.Footprints.{needed_at}
use Rattle.plain_footprint.proofs.Alike.{translator_same, conf_same}
use Rattle.plain_footprint.proofs.Listed.{in_head, in_tail}

module _ (u w : Plain) (i : ℕ) (layout : u.layout ≡ w.layout) (maps : maps_of u i ≡ maps_of w i) where
  every : confs_below u.layout.shape.vcpus ≡ confs_below w.layout.shape.vcpus
  every = ap (λ (l : Layout). confs_below l.shape.vcpus) layout

  targeted : (dev ev : ℕ) → pend_at (target_of_event (maps_of u i) dev ev) ≡ pend_at (target_of_event (maps_of w i) dev ev)
  targeted dev ev = ap (λ (m : Maps). pend_at (target_of_event m dev ev)) maps

  needed_alike : (c : Command) → needed u i c ≡ needed w i c
  unfolding needed
  needed_alike (command.Movi dev ev icid) = ap (λ (m : Maps). pend_at (target_of_event m dev.0 ev.0) ++ pend_at (collection_of m icid.0)) maps
  needed_alike (command.Int dev ev) = targeted dev.0 ev.0
  needed_alike (command.Clear dev ev) = targeted dev.0 ev.0
  needed_alike (command.Discard dev ev) = targeted dev.0 ev.0
  needed_alike (command.Mapc icid target valid) =
      (λ d. if valid && nat_lt target (layout d).shape.vcpus then moved_targets (layout d).shape.profile (collection_of (maps d) icid.0) target else [])
  needed_alike (command.Movall from to) = ap (λ (l : Layout). both_targets l.shape.vcpus from to) layout
  needed_alike (command.Mapti dev ev intid icid) = every
  needed_alike (command.Mapi dev ev icid) = every
  needed_alike (command.Inv dev ev) = every
  needed_alike (command.Invall icid) = every
  needed_alike (command.Mapd dev bits itt valid) = refl
  needed_alike (command.Sync target) = refl
  needed_alike (command.Unknown opcode) = refl

  needed_at_alike : (bytes : Option (List ℕ)) → needed_at u i bytes ≡ needed_at w i bytes
  needed_at_alike None = refl
  needed_at_alike (Some bytes) = needed_alike (decoded bytes)

signal_alike : (u w : Plain) (its dev ev : ℕ) → AgreesOn u w (signal_parts u its dev ev) → signal_parts u its dev ev ≡ signal_parts w its dev ev
signal_alike u w its dev ev a =
    let ps : List Part = pend_at (option_map (λ t. t.vcpu) (result_ok (located (translator u its) dev ev))) in
    ap (λ (t : Translator). MapsOf its ∷ pend_at (option_map (λ t. t.vcpu) (result_ok (located t dev ev))))
    (translator_same u w (MapsOf its ∷ ps) its (in_head (MapsOf its) ps) a)

route_alike : (u w : Plain) (to : Route) → AgreesOn u w (route_parts u to) → route_parts u to ≡ route_parts w to
route_alike u w (route.Signal its dev ev) a = signal_alike u w its dev.0 ev.0 a
route_alike u w route.Poke a = refl
route_alike u w route.NoRequester a = refl
route_alike u w route.Frame a = refl

pub same_parts : (u w : Plain) (c : Call) → AgreesOn u w (footprint u c) → footprint u c ≡ footprint w c
unfolding footprint
same_parts u w (call.Signal its dev ev) a = signal_alike u w its dev.0 ev.0 a
same_parts u w (call.Take vcpu) a = refl
same_parts u w (call.Show vcpu) a = refl
same_parts u w (call.Best vcpu mask) a = refl
same_parts u w (call.Claim vcpu intid) a = refl
same_parts u w (call.Poke addr bytes) a = refl
same_parts u w (call.Peek addr count) a = refl
same_parts u w (call.ReadReg its off size) a = refl
same_parts u w (call.WriteReg its off size value) a = refl
same_parts u w (call.ReadGicr vcpu off size) a = refl
same_parts u w (call.WriteGicr vcpu off size value) a =
    let rest : List Part = write_parts vcpu (asked_by (redistributor u vcpu.0).bases off size value) in
    ap (λ (c : ConfState). Conf vcpu ∷ write_parts vcpu (asked_by c.bases off size value))
    (conf_same u w (Conf vcpu ∷ rest) vcpu.0 (in_head (Conf vcpu) rest) a)
same_parts u w (call.Step its) a =
    let rest : List Part = (if is_idle u its then [] else needed_at u its (next_bytes u its)) in
    let ps : List Part = Mem ∷ rest in
    let same : translator u its ≡ translator w its = translator_same u w (MapsOf its ∷ ps) its (in_head (MapsOf its) ps) a in
    let memory : u.memory ≡ w.memory = (a.parts Mem (in_tail Mem (MapsOf its) ps (in_head Mem rest))).0 in
    let idle : is_idle u its ≡ is_idle w its = ap (λ (t : Translator). not t.regs.enabled || is_queue_empty t.regs) same in
    let bytes : next_bytes u its ≡ next_bytes w its = (λ d. read_at (memory d) (queue_place (same d).regs) 32) in
    let more : needed_at u its (next_bytes u its) ≡ needed_at w its (next_bytes w its) =
    needed_at_alike u w its a.layout (ap (λ (t : Translator). t.maps) same) (next_bytes u its) ∙ ap (needed_at w its) bytes in
    (λ d. MapsOf its ∷ Mem ∷ (if idle d then [] else more d))
same_parts u w call.Copy a = refl
same_parts u w (call.Dma req addr bytes to) a = route_alike u w to a
same_parts u w call.Save a = (λ d. Mem ∷ translators_below (a.translators d) ++ confs_below (a.redistributors d) ++ pends_below (a.redistributors d))
