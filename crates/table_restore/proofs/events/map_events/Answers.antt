use Rattle.std.proofs.Common.{◌<◌, sym, subst, ◌∙◌, IsSome}
use Rattle.std.specs.Ordering.{nat_cmp}
use Rattle.std.specs.FinMap as map
use Rattle.std.specs.FinMap.{FinMap}
use Rattle.its_types.specs.declared.translation.Device.{Device}
use Rattle.its_plain.specs.EventTables.{itt_of, next_event}
use Rattle.standing_states.specs.Walked.{after}
use Rattle.standing_states.specs.Found.{put_event, look_event, events_read}
use Rattle.standing_states.proofs.Walks.{goes_on, ends_here, goes_wrong, after-err}
use Rattle.standing_states.proofs.EventsWalked.{events_rise}
use Rattle.table_restore.proofs.Steps.{event_put, event_wrong}
use Rattle.table_restore.proofs.events.map_events.Goals as goal

pub returns-in-Err : goal.returns-in-Err
returns-in-Err c =
    let t = itt_of c.args.dev.0 c.args.device in let memory = c.args.memory.now in let n = c.args.lpi_bits in let put = put_event c.args.dev.0 in
    after-err put c.args.maps.now.maps (events_read memory n t) c.in-Err.fault
    (goes_wrong put (look_event memory n t) (next_event memory t) (λ i. i) t.places (λ i. i < t.places) (events_rise memory t) c.places.maps.maps c.places.ev
    c.in-Err.fault (after put c.args.maps.now.maps (events_read memory n t)) c.places.invariant.inside c.places.invariant.rest
    (event_wrong memory n t c.places.ev c.in-Err.fault c.in-Err.ensures))

pub returns-in_default : goal.returns-in_default
returns-in_default c =
    let t = itt_of c.args.dev.0 c.args.device in let memory = c.args.memory.now in let n = c.args.lpi_bits in let put = put_event c.args.dev.0 in
    ends_here put (look_event memory n t) (next_event memory t) (λ i. i) t.places (λ i. i < t.places) (events_rise memory t) c.places.maps.maps
    c.map_one.new.maps.maps c.places.ev c.in-Ok.seen.1 (after put c.args.maps.now.maps (events_read memory n t)) c.places.invariant.inside
    c.places.invariant.rest
    (event_put memory n t c.places.ev c.in-Ok.seen.0 put c.places.maps.maps c.map_one.new.maps.maps c.in-Ok.ensures.0 c.in-Ok.ensures.1
    c.in_ok-map_one.ensures.maps) c.in-Ok.ensures.2 c.in_default.is

pub places-preserved : goal.places-preserved
places-preserved c =
    let t = itt_of c.args.dev.0 c.args.device in let memory = c.args.memory.now in let n = c.args.lpi_bits in let put = put_event c.args.dev.0 in
    record {
      inside = (events_rise memory t).good c.places.ev c.in-Some.to c.places.invariant.inside (c.in-Ok.ensures.2 ∙ c.in-Some.is);
      mapped = subst (λ (m : FinMap nat_cmp Device). IsSome (map.get m c.args.dev.0)) (sym c.in_ok-map_one.ensures.devices) c.places.invariant.mapped;
      rest =
          goes_on put (look_event memory n t) (next_event memory t) (λ i. i) t.places (λ i. i < t.places) (events_rise memory t) c.places.maps.maps
          c.map_one.new.maps.maps c.places.ev c.in-Some.to c.in-Ok.seen.1 (after put c.args.maps.now.maps (events_read memory n t))
          c.places.invariant.inside c.places.invariant.rest
          (event_put memory n t c.places.ev c.in-Ok.seen.0 put c.places.maps.maps c.map_one.new.maps.maps c.in-Ok.ensures.0 c.in-Ok.ensures.1
          c.in_ok-map_one.ensures.maps) c.in-Ok.ensures.2 c.in-Some.is;
    }
