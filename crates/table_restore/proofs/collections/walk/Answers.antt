use Rattle.std.proofs.Common.{◌<◌, refl, ◌∙◌, arith}
use Rattle.gits_regs.specs.Registers.{collection_places}
use Rattle.its_plain.specs.CollectionTables.{next_collection}
use Rattle.standing_states.specs.Walked.{after}
use Rattle.standing_states.specs.Found.{put_collection, look_collection, collections_from}
use Rattle.standing_states.proofs.Walks.{goes_on, ends_here, goes_wrong, after-err, is_smaller}
use Rattle.standing_states.proofs.CollectionsWalked.{collections_rise, none_before}
use Rattle.table_restore.proofs.Steps.{collection_put, collection_wrong, leads_up, before_next}
use Rattle.table_restore.proofs.collections.walk.Goals as goal

pub places-init : goal.places-init
places-init c = record {
  inside = omega arith;
  before = none_before c.args.shape c.args.memory.now c.args.regs.now c.args.maps.now.maps c.requires;
  rest = refl;
}

pub returns-in-Err : goal.returns-in-Err
returns-in-Err c =
    let memory = c.args.memory.now in let r = c.args.regs.now in let s = c.args.shape in
    after-err put_collection c.args.maps.now.maps (collections_from s memory r 0) c.in-Err.fault
    (goes_wrong put_collection (look_collection s memory r) (next_collection memory r) (λ j. j) (collection_places r) (λ j. j < collection_places r)
    (collections_rise memory r) c.places.maps.maps c.places.place c.in-Err.fault (after put_collection c.args.maps.now.maps (collections_from s memory r 0))
    c.places.invariant.inside c.places.invariant.rest (collection_wrong s memory r c.places.place c.in-Err.fault c.in-Err.ensures))

pub returns-in_default : goal.returns-in_default
returns-in_default c =
    let memory = c.args.memory.now in let r = c.args.regs.now in let s = c.args.shape in
    ends_here put_collection (look_collection s memory r) (next_collection memory r) (λ j. j) (collection_places r) (λ j. j < collection_places r)
    (collections_rise memory r) c.places.maps.maps c.map_one.new.maps.maps c.places.place c.in-Ok.seen.1
    (after put_collection c.args.maps.now.maps (collections_from s memory r 0)) c.places.invariant.inside c.places.invariant.rest
    (collection_put s memory r c.places.place c.in-Ok.seen.0 c.places.maps.maps c.map_one.new.maps.maps c.in-Ok.ensures.0 c.in-Ok.ensures.1
    c.in_ok-map_one.ensures) c.in-Ok.ensures.2 c.in_default.is

pub places-smaller : goal.places-smaller
places-smaller c =
    let memory = c.args.memory.now in let r = c.args.regs.now in
    is_smaller (next_collection memory r) (λ j. j) (collection_places r) (λ j. j < collection_places r) (collections_rise memory r) c.places.place
    c.in-Some.to c.in-Ok.seen.1 c.places.invariant.inside c.in-Ok.ensures.2 c.in-Some.is

pub places-preserved : goal.places-preserved
places-preserved c =
    let memory = c.args.memory.now in let r = c.args.regs.now in let s = c.args.shape in
    record {
      inside = (collections_rise memory r).good c.places.place c.in-Some.to c.places.invariant.inside (c.in-Ok.ensures.2 ∙ c.in-Some.is);
      before = before_next s memory r c.places.place c.in-Some.to c.in-Ok.seen.0 c.places.maps.maps c.map_one.new.maps.maps c.places.invariant.before
          c.in-Ok.ensures.1 c.in_ok-map_one.ensures (leads_up memory r c.places.place c.in-Some.to (c.in-Ok.ensures.2 ∙ c.in-Some.is));
      rest =
          goes_on put_collection (look_collection s memory r) (next_collection memory r) (λ j. j) (collection_places r) (λ j. j < collection_places r)
          (collections_rise memory r) c.places.maps.maps c.map_one.new.maps.maps c.places.place c.in-Some.to c.in-Ok.seen.1
          (after put_collection c.args.maps.now.maps (collections_from s memory r 0)) c.places.invariant.inside c.places.invariant.rest
          (collection_put s memory r c.places.place c.in-Ok.seen.0 c.places.maps.maps c.map_one.new.maps.maps c.in-Ok.ensures.0 c.in-Ok.ensures.1
          c.in_ok-map_one.ensures) c.in-Ok.ensures.2 c.in-Some.is;
    }
