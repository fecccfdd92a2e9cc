use Rattle.std.proofs.Common.{List, subst}
use Rattle.its_history.specs.declared.trace.EntryLine.{EntryLine}
use Rattle.report_places.specs.Reached.{PassesOver}
use Rattle.report_places.proofs.Reaches.{passes}
use Rattle.report_places.proofs.place.pass_over.Goals as goal

pub returns : goal.returns
returns c =
    let first = c.args.machine.now in let leg = c.args.leg.now in let w = c.move_on.new.machine in
    subst (λ (es : List EntryLine). PassesOver first leg es w) c.as_slice.ensures
    (passes first leg c.as_slice.result.now c.follow.new.machine w c.in_ok-follow.ensures c.in_ok-move_on.ensures)
