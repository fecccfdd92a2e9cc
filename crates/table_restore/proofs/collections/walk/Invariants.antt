use Rattle.std.proofs.Common.{◌≡◌, ◌<◌, ◌-◌}
use Rattle.gits_regs.specs.Registers.{collection_places}
use Rattle.standing_states.specs.Walked.{after}
use Rattle.standing_states.specs.Found.{put_collection, collections_from, AreThoseBefore}
use Rattle.table_restore.proofs.collections.walk.Given as goal

abbrev pub invariant-places : goal.invariant-places
invariant-places l = record {
  inside : l.place < collection_places l.regs;
  before : AreThoseBefore l.shape l.memory l.regs l.maps.maps l.place;
  rest : after put_collection l.maps.maps (collections_from l.shape l.memory l.regs l.place) ≡ after put_collection l.fn.maps.maps
      (collections_from l.shape l.memory l.regs 0);
}

abbrev pub decreases-places : goal.decreases-places
decreases-places l = collection_places l.regs - l.place
