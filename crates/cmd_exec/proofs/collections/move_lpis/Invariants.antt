use Rattle.std.proofs.Common.{◌≡◌, true}
use Rattle.std.specs.FinMap.{entries}
use Rattle.cmd_exec.specs.InHand.{is_on_in, lpis_moved_in}
use Rattle.cmd_exec.specs.Ready.{TakesAll}
use Rattle.cmd_exec.specs.Walked.{lpis_of_all}
use Rattle.cmd_exec.proofs.collections.move_lpis.Given as goal

abbrev pub invariant-loop-dev : goal.invariant-loop-dev
invariant-loop-dev l = record {
  rest : lpis_moved_in (lpis_of_all l.maps.maps l.dev-iterator l.icid.0) l.from.0 l.to.0 l.redists
      ≡ lpis_moved_in (lpis_of_all l.maps.maps (entries l.maps.maps.devices) l.icid.0) l.from.0 l.to.0 l.initial.redists;
  from : TakesAll l.redists l.from.0 (lpis_of_all l.maps.maps l.dev-iterator l.icid.0);
  to : TakesAll l.redists l.to.0 (lpis_of_all l.maps.maps l.dev-iterator l.icid.0);
  on : is_on_in l.redists l.to.0 ≡ true;
}
