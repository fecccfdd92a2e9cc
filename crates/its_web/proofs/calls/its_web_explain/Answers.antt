use Rattle.std.proofs.Common.{Some}
use Rattle.its_answers.specs.Its.{ExplainCauses}
use Rattle.its_web.proofs.Puts.{given}
use Rattle.its_web.proofs.calls.its_web_explain.Goals as goal

pub returns : goal.returns
returns c =
    given (ExplainCauses (Some c.args.input.now) ⊥) c.explain_answer-answer.result c.give.result c.args.out.now c.give.new.out c.give.new.len
    c.explain_answer-answer.ensures c.give.ensures
