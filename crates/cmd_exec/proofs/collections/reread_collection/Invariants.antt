use Rattle.std.proofs.Common.{◌++◌}
use Rattle.std.specs.FinMap.{entries}
use Rattle.cmd_exec.specs.Walked.{lpis_of_all, AreLeft}
use Rattle.cmd_exec.proofs.collections.reread_collection.Given as goal

abbrev pub invariant-loop-dev : goal.invariant-loop-dev
invariant-loop-dev l = AreLeft l.vcpus l.memory (lpis_of_all l.maps.maps (entries l.maps.maps.devices) l.icid.0)
    (l.batch ++ lpis_of_all l.maps.maps l.dev-iterator l.icid.0) l.initial.redists l.redists
