use Rattle.std.proofs.Common.{◌∙◌, ◌-◌, ◌+◌, List, sym, ap}
use Rattle.its_history.proofs.ReadLegs.{in_front}
use Rattle.its_fit.specs.declared.told.Answered.{Answered}
use Rattle.fit_answers.specs.ToldText.{left, threads_from}
use Rattle.fit_answers.proofs.ToldLines.{threads_on}
use Rattle.fit_answers.proofs.left.Lines.threads.Goals as goal

pub loop-index-preserved : goal.loop-index-preserved
loop-index-preserved c =
    let l = c.loop-index in
    let now = left c.calls.new.self in
    l.invariant ∙ threads_on l.threads l.index c.args.count (left l.self) c.in_ok-calls.calls now c.loop-index-test.true c.in_ok-calls.ensures
    ∙ ap (λ (ts : List (List Answered)). in_front ts (threads_from (l.index + 1) (c.args.count - (l.index + 1)) now)) (sym c.in_ok-push.ensures.ok)
