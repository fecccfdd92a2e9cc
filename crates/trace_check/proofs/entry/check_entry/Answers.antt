use Rattle.std.proofs.Common.{◌≡◌, ◌∙◌, Some, sym}
use Rattle.trace_check.specs.Cursors.{next_call}
use Rattle.trace_check.specs.Fields.{progress}
use Rattle.trace_check.proofs.Following.{next_means}
use Rattle.trace_check.proofs.Entries.{has_call}
use Rattle.trace_check.proofs.entry.check_entry.Goals as goal

pub take-requires-clause-call : goal.take-requires-clause-call
take-requires-clause-call c =
    let n = c.in-Some.next in let p = progress c.args.cursor.now in
    let said : Some (n.thread, n.call) ≡ next_call p c.from-phase.result c.from-thread.result = c.in-Some.ensures in
    let next : next_call p c.args.line.now.phase c.args.line.now.thread ≡ Some (n.thread, n.call) =
    (λ d. next_call p (sym c.from-phase.ensures d) (sym c.from-thread.ensures d)) ∙ sym said in
    let is = next_means p c.args.line.now.phase c.args.line.now.thread n.thread n.call next in
    has_call c.args.cursor.now n.thread n.call is.call_is
