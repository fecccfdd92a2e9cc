use Rattle.std.proofs.Common.{sym}
use Rattle.fit_answers.specs.ToldText.{answered_by}
use Rattle.fit_answers.proofs.ToldLines.{call_printed}
use Rattle.fit_answers.proofs.left.Lines.call.Goals as goal

pub returns-clause-printed : goal.returns-clause-printed
returns-clause-printed c =
    call_printed c.args.thread c.in_ok-line.line.now (answered_by c.in_ok-call.call) (sym c.in_ok-call.ensures) c.in_ok-line.ensures.printed
