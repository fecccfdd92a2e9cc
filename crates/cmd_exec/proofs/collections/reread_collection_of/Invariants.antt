use Rattle.std.proofs.Common.{◌++◌}
use Rattle.its_maps.specs.Walks.{events_left}
use Rattle.cmd_exec.specs.Walked.{lpis_of, AreLeft}
use Rattle.cmd_exec.proofs.collections.reread_collection_of.Given as goal

abbrev pub invariant-loop-event : goal.invariant-loop-event
invariant-loop-event l = AreLeft l.vcpus l.memory (l.initial.batch ++ lpis_of (events_left l.fn.events) l.icid.0)
    (l.batch ++ lpis_of (events_left l.event-iterator) l.icid.0) l.initial.redists l.redists
