use Rattle.std.proofs.Common.{◌≡◌, ℕ, true}
use Rattle.std.specs.List.{AllByRecursion}
use Rattle.its_maps.specs.Walks.{events_left}
use Rattle.its_types.specs.Maps.{events_at}
use Rattle.its_types.specs.Ranges.{is_lpi}
use Rattle.its_types.specs.declared.translation.Event.{Event}
use Rattle.owned_machine.proofs.Walking.{IsOnTheWay}
use Rattle.owned_machine.specs.Stale.{leads}
use Rattle.owned_machine.proofs.stale.add_of_device.Given as goal

-- those that are left are of LPIs, and the others are added
abbrev pub invariant-loop-event : goal.invariant-loop-event
invariant-loop-event l = record {
  can_next : (goal.iterator-loop-event).can_next l.event-iterator;
  is_finite : (goal.iterator-loop-event).is_finite l.event-iterator;
  lpis : AllByRecursion {X = ℕ × Event} (λ e. is_lpi l.parts.layout.shape.lpi_bits e.1.intid.0 ≡ true) (events_left l.event-iterator);
  way : IsOnTheWay l.parts (λ (e : ℕ × Event). leads l.maps.maps e.1) (events_left l.event-iterator) (events_at l.fn.maps.maps l.fn.dev.0) l.fn.sets l.sets;
}
