use Rattle.std.proofs.Common.{◌≡◌, true}
use Rattle.its_maps.specs.Walks.{events_left}
use Rattle.cmd_exec.specs.InHand.{is_on_in, lpis_moved_in}
use Rattle.cmd_exec.specs.Ready.{TakesAll}
use Rattle.cmd_exec.specs.Walked.{lpis_of}
use Rattle.cmd_exec.proofs.collections.move_lpis_of.Given as goal

abbrev pub invariant-loop-event : goal.invariant-loop-event
invariant-loop-event l = record {
  rest : lpis_moved_in (lpis_of (events_left l.event-iterator) l.icid.0) l.from.0 l.to.0 l.redists ≡ lpis_moved_in (lpis_of (events_left l.fn.events) l.icid.0) l.from.0 l.to.0
      l.initial.redists;
  from : TakesAll l.redists l.from.0 (lpis_of (events_left l.event-iterator) l.icid.0);
  to : TakesAll l.redists l.to.0 (lpis_of (events_left l.event-iterator) l.icid.0);
  on : is_on_in l.redists l.to.0 ≡ true;
}
