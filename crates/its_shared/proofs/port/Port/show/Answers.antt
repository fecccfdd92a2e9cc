use Rattle.its_plain.specs.declared.call.Reply.TheVariants as reply
use Rattle.its_shared.proofs.Answered.{of_known, of_both}
use Rattle.its_shared.specs.Answers.{answer_of}
use Rattle.its_shared.specs.Asked as asked
use Rattle.its_shared.specs.Ports.{known_by}
use Rattle.its_turns.specs.Machines.{view}
use Rattle.its_types.specs.declared.machine.Part.TheVariants as part
use Rattle.its_shared.proofs.port.Port.show.Goals as goal

pub returns-clause-answer : goal.returns-clause-answer
returns-clause-answer c =
    let v = view c.self.inside.pass in
    let w = view c.try_show.new.pass in
    of_known (asked.show c.args.vcpu) reply.Ack (known_by c.self.inside) c.args.self.now w (answer_of c.try_show.result) c.answered.result c.self.view_is c.answered.ensures
    (of_both (part.Conf (record { 0 = c.args.vcpu })) (part.Pend (record { 0 = c.args.vcpu })) (asked.show c.args.vcpu) reply.Ack v w c.try_show.result c.try_show.ensures.answer)
