use Rattle.std.proofs.Common.{Some}
use Rattle.its_answers.specs.Its.{RunCauses}
use Rattle.its_web.proofs.Puts.{given}
use Rattle.its_web.proofs.calls.its_web_run.Goals as goal

pub returns : goal.returns
returns c =
    given (RunCauses (Some c.args.input.now) ⊥) c.run_answer-answer.result c.give.result c.args.out.now c.give.new.out c.give.new.len
    c.run_answer-answer.ensures c.give.ensures
