use Rattle.std.proofs.Common.{◌≤◌, ◌<◌, is_some, refl, sym, ap, ◌∙◌, subst, arith}
use Rattle.its_types.specs.Maps.{device_of, event_of, event_mapped}
use Rattle.its_maps.specs.MapsRoom.{event_room}
use Rattle.its_maps.proofs.Calls.{has_device, no_event, after_map_event}
use Rattle.its_maps.proofs.Rooms.{has_room, room_here, first_there, second_there}
use Rattle.its_maps.proofs.Counted.{some_counted, some_named, some_or, named_fits, after_entry}
use Rattle.its_maps.proofs.maps.Maps.map_event.Goals as goal

pub get_mut-record-requires : goal.get_mut-record-requires
get_mut-record-requires c = sym (has_device c.self.inside.devices.map c.args.dev.0) ∙ ap (λ m. is_some (device_of m.maps c.args.dev.0)) c.self.view_is
    ∙ c.requires.mapped

pub insert-requires-clause-spare : goal.insert-requires-clause-spare
insert-requires-clause-spare c = λ absent.
    let none = ap (λ m. event_of m.maps c.args.dev.0 c.args.ev.0) (sym c.self.view_is) ∙ no_event c.self.inside.devices.map c.args.dev.0
    c.get_mut-record.result.now c.get_mut-record.ensures.value c.args.ev.0 absent in
    let room = ap (λ m. event_room m.room c.args.dev.0) (sym c.self.view_is) ∙ room_here c.self.inside.devices.map c.args.dev.0 _
    c.get_mut-record.result.now c.get_mut-record.ensures.value in
    (has_room _ _ (subst (λ n. 1 ≤ n) room (c.requires.room none))).1

pub insert-requires-clause-reserve : goal.insert-requires-clause-reserve
insert-requires-clause-reserve c = λ absent.
    let none = ap (λ m. event_of m.maps c.args.dev.0 c.args.ev.0) (sym c.self.view_is) ∙ no_event c.self.inside.devices.map c.args.dev.0
    c.get_mut-record.result.now c.get_mut-record.ensures.value c.args.ev.0 absent in
    let room = ap (λ m. event_room m.room c.args.dev.0) (sym c.self.view_is) ∙ room_here c.self.inside.devices.map c.args.dev.0 _
    c.get_mut-record.result.now c.get_mut-record.ensures.value in
    first_there _ _ _ (subst (λ n. 1 ≤ n) room (c.requires.room none))

pub returns-clause-maps : goal.returns-clause-maps
returns-clause-maps c =
    after_map_event c.self.inside.devices.map c.self.inside.collections.map c.args.dev.0 c.get_mut-record.result.now c.get_mut-record.ensures.value
    (record { device = c.get_mut-record.result.now.device; events = c.insert.new.self }) refl c.args.ev.0 c.args.event c.insert.ensures
    ∙ ap (λ m. event_mapped m.maps c.args.dev.0 c.args.ev.0 c.args.event) c.self.view_is

pub leave-requires-clause-some : goal.leave-requires-clause-some
leave-requires-clause-some c =
    some_counted c.self.inside.counts c.self.inside.devices.map c.self.invariant.1 c.args.dev.0 c.get_mut-record.result.now c.get_mut-record.ensures.value
    c.args.ev.0 c.copied-before.result (c.copied-before.ensures ∙ c.get.ensures)

pub leave-requires-clause-named : goal.leave-requires-clause-named
leave-requires-clause-named c =
    some_named c.self.inside.counts c.self.inside.devices.map c.self.invariant.1 c.args.dev.0 c.get_mut-record.result.now c.get_mut-record.ensures.value
    c.args.ev.0 c.copied-before.result (c.copied-before.ensures ∙ c.get.ensures)

pub enter-requires-clause-room : goal.enter-requires-clause-room
enter-requires-clause-room c =
    c.leave.ensures.room (some_or c.copied-before.result _ (λ none.
    let nothing = ap (λ m. event_of m.maps c.args.dev.0 c.args.ev.0) (sym c.self.view_is) ∙ no_event c.self.inside.devices.map c.args.dev.0
    c.get_mut-record.result.now c.get_mut-record.ensures.value c.args.ev.0 (ap is_some (sym (c.copied-before.ensures ∙ c.get.ensures) ∙ none)) in
    let room = ap (λ m. event_room m.room c.args.dev.0) (sym c.self.view_is) ∙ room_here c.self.inside.devices.map c.args.dev.0 _
    c.get_mut-record.result.now c.get_mut-record.ensures.value in
    second_there _ _ _ (subst (λ n. 1 ≤ n) room (c.requires.room nothing))))

pub enter-requires-clause-fits : goal.enter-requires-clause-fits
enter-requires-clause-fits c =
    let below : c.args.event.icid.0 < 65536 = omega arith in
    let fits = named_fits c.self.inside.counts c.self.inside.devices.map c.self.invariant.1 c.args.event.icid.0 below in
    omega (arith, fits, c.leave.ensures.named c.args.event.icid.0 below)

pub invariant_of-self : goal.invariant_of-self
invariant_of-self c = (
  c.self.invariant.0,
  after_entry c.self.inside.counts c.self.inside.devices.map c.self.invariant.1 c.args.dev.0 c.get_mut-record.result.now c.get_mut-record.ensures.value
      (record { device = c.get_mut-record.result.now.device; events = c.insert.new.self }) c.enter.new.self c.args.ev.0 c.args.event c.copied-before.result
      (c.copied-before.ensures ∙ c.get.ensures) c.insert.ensures (c.enter.ensures.devices ∙ c.leave.ensures.devices)
      (omega (arith, c.enter.ensures.events, c.leave.ensures.events)) c.enter.ensures.below c.enter.ensures.tally
      (λ k lt. omega (arith, c.enter.ensures.named k, c.leave.ensures.named k lt)),
)
