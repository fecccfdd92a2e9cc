use Rattle.std.proofs.Common.{Some}
use Rattle.its_answers.specs.Checked.{CheckCauses}
use Rattle.its_web.proofs.Puts.{given}
use Rattle.its_web.proofs.calls.its_web_check.Goals as goal

pub returns : goal.returns
returns c =
    given (CheckCauses (Some c.args.input.now) ⊥) c.check_answer-answer.result c.give.result c.args.out.now c.give.new.out c.give.new.len
    c.check_answer-answer.ensures c.give.ensures
