use Rattle.std.proofs.Common.{◌≡◌, Some, sym}
use Rattle.trace_check.specs.Cursors.{next_call}
use Rattle.trace_check.specs.Fields.{progress}
use Rattle.trace_check.proofs.LinesOf.{has_next_call}
use Rattle.report_places.proofs.place.make_next.Goals as goal

pub take-requires-clause-call : goal.take-requires-clause-call
take-requires-clause-call c =
    let n = c.in-Some.next in let p = progress c.args.cursor.now in
    let said : Some (n.thread, n.call) ≡ next_call p c.from-phase.result c.from-thread.result = c.in-Some.ensures in
    has_next_call c.args.cursor.now c.from-phase.result c.from-thread.result n.thread n.call (sym said)
