use Rattle.std.proofs.Common.{◌≡◌, ℕ, List, sym, subst}
use Rattle.std.specs.FinMap.{entries}
use Rattle.its_types.specs.Maps.{events_at}
use Rattle.its_types.specs.declared.translation.Device.{Device}
use Rattle.owned_machine.proofs.Led.{adds_same, all_lead, devices_lead, still_sets}
use Rattle.owned_machine.proofs.Walking.{way_begins, way_on, way_ends}
use Rattle.owned_machine.specs.Stale.{any_leads, some_leads}
use Rattle.owned_machine.proofs.stale.add_led_to.Goals as goal

pub loop-dev-init : goal.loop-dev-init
loop-dev-init c =
    let m = c.args.maps.now.maps in
    let w = c.into_iter-dev-iterator.result in
    record {
      can_next = tt;
      is_finite = tt;
      way = way_begins c.args.parts.now (λ (d : ℕ × Device). some_leads m (events_at m d.0)) w (entries m.devices) c.args.sets.now
          (subst (λ (x : List (ℕ × Device)). x ≡ entries m.devices) (sym c.into_iter-dev-iterator.ensures.into_iter_gives) c.devices-dev-items.ensures);
    }

pub add_of_device-requires-clause-sets : goal.add_of_device-requires-clause-sets
add_of_device-requires-clause-sets c =
    let w = c.loop-dev.invariant.way in
    still_sets c.args.parts.now w.done c.args.sets.now c.loop-dev.sets w.added c.requires.sets

pub loop-dev-preserved : goal.loop-dev-preserved
loop-dev-preserved c =
    let m = c.args.maps.now.maps in
    record {
      can_next = tt;
      is_finite = tt;
      way = way_on c.args.parts.now (λ (d : ℕ × Device). some_leads m (events_at m d.0)) c.loop-dev.dev-iterator c.next.new.self (entries m.devices)
          (c.in-Some.dev.0, c.in-Some.field-0-1) c.args.sets.now c.loop-dev.sets c.add_of_device.new.sets c.in-Some.ensures.steps c.add_of_device.ensures
          c.loop-dev.invariant.way;
    }

pub returns : goal.returns
returns c =
    let p = c.args.parts.now in
    let m = c.args.maps.now.maps in
    adds_same p (devices_lead m (entries m.devices)) (any_leads m (entries m.events)) c.args.sets.now c.loop-dev.sets
    (all_lead m c.requires.inside.have_devices)
    (way_ends p (λ (d : ℕ × Device). some_leads m (events_at m d.0)) c.loop-dev.dev-iterator (entries m.devices) c.args.sets.now c.loop-dev.sets
    c.in-None.ensures.steps.0 c.loop-dev.invariant.way)
