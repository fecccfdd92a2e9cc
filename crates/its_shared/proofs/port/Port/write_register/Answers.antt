use Rattle.cmd_engine.specs.Hands.{IsOfTranslator}
use Rattle.its_plain.specs.declared.call.Reply.TheVariants as reply
use Rattle.its_shared.proofs.Answered.{of_known, of_write_register}
use Rattle.its_shared.specs.Answers.{answer_of_tried}
use Rattle.its_shared.specs.Asked as asked
use Rattle.its_shared.specs.Ports.{known_by}
use Rattle.its_turns.specs.Machines.{view}
use Rattle.its_shared.proofs.port.Port.write_register.Goals as goal

pub returns-clause-answer : goal.returns-clause-answer
returns-clause-answer c =
    let v = view c.self.inside.pass in
    let w = view c.try_write_at.new.pass in
    of_known (asked.write_register c.args.its c.args.offset c.args.size c.args.value) (λ _. reply.Ok) (known_by c.self.inside) c.args.self.now w (answer_of_tried c.try_write_at.result) c.answered_tried.result c.self.view_is c.answered_tried.ensures
    (of_write_register c.args.its c.args.offset c.args.size c.args.value (IsOfTranslator c.args.its) v w c.try_write_at.result c.try_write_at.ensures.answer)
