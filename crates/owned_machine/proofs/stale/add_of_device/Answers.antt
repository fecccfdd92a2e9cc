use Rattle.std.proofs.Common.{◌≡◌, ℕ, true, List, sym, subst}
use Rattle.std.specs.List.{AllByRecursion}
use Rattle.its_maps.specs.Walks.{events_left}
use Rattle.its_types.specs.Maps.{events_at}
use Rattle.its_types.specs.Ranges.{is_lpi}
use Rattle.its_types.specs.declared.translation.Event.{Event}
use Rattle.owned_machine.proofs.Led.{lpis_at, still_sets}
use Rattle.owned_machine.proofs.Walking.{first_lpi, way_begins, way_on, way_ends}
use Rattle.owned_machine.specs.Stale.{leads}
use Rattle.owned_machine.proofs.stale.add_of_device.Goals as goal

pub loop-event-init : goal.loop-event-init
loop-event-init c =
    let p = c.args.parts.now in
    let m = c.args.maps.now.maps in
    let w = c.into_iter-event-iterator.result in
    let all : events_left w ≡ events_at m c.args.dev.0 = subst (λ x. events_left x ≡ events_at m c.args.dev.0)
    (sym c.into_iter-event-iterator.ensures.into_iter_gives) c.events-event-items.ensures in
    record {
      can_next = tt;
      is_finite = tt;
      lpis = subst (λ (es : List (ℕ × Event)). AllByRecursion {X = ℕ × Event} (λ e. is_lpi p.layout.shape.lpi_bits e.1.intid.0 ≡ true) es) (sym all)
          (lpis_at p.layout.shape m c.args.dev.0 c.requires.inside);
      way = way_begins p (λ (e : ℕ × Event). leads m e.1) (events_left w) (events_at m c.args.dev.0) c.args.sets.now all;
    }

pub add_event-requires-clause-lpi : goal.add_event-requires-clause-lpi
add_event-requires-clause-lpi c =
    (first_lpi c.args.parts.now.layout.shape.lpi_bits _ _ (c.in-Some.field-0-0.0, c.in-Some.event) c.in-Some.ensures.steps c.loop-event.invariant.lpis).0

pub add_event-requires-clause-sets : goal.add_event-requires-clause-sets
add_event-requires-clause-sets c =
    let w = c.loop-event.invariant.way in
    still_sets c.args.parts.now w.done c.args.sets.now c.loop-event.sets w.added c.requires.sets

pub loop-event-preserved : goal.loop-event-preserved
loop-event-preserved c =
    let p = c.args.parts.now in
    let m = c.args.maps.now.maps in
    let v = c.loop-event.invariant in
    let e : ℕ × Event = (c.in-Some.field-0-0.0, c.in-Some.event) in
    record {
      can_next = tt;
      is_finite = tt;
      lpis = (first_lpi p.layout.shape.lpi_bits _ _ e c.in-Some.ensures.steps v.lpis).1;
      way = way_on p (λ (x : ℕ × Event). leads m x.1) (events_left c.loop-event.event-iterator) (events_left c.next.new.self) (events_at m c.args.dev.0) e
          c.args.sets.now c.loop-event.sets c.add_event.new.sets c.in-Some.ensures.steps c.add_event.ensures v.way;
    }

pub returns : goal.returns
returns c =
    let p = c.args.parts.now in
    let m = c.args.maps.now.maps in
    way_ends p (λ (x : ℕ × Event). leads m x.1) (events_left c.loop-event.event-iterator) (events_at m c.args.dev.0) c.args.sets.now c.loop-event.sets
    c.in-None.ensures.steps.0 c.loop-event.invariant.way
