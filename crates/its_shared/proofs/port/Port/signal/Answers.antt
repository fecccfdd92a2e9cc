use Rattle.device_port.specs.Messages.{message}
use Rattle.its_plain.specs.declared.call.Reply.TheVariants as reply
use Rattle.its_shared.proofs.Answered.{of_known, of_message}
use Rattle.its_shared.specs.Answers.{answer_of}
use Rattle.its_shared.specs.Asked as asked
use Rattle.its_shared.specs.Ports.{known_by}
use Rattle.its_turns.specs.Machines.{view}
use Rattle.its_shared.proofs.port.Port.signal.Goals as goal

pub returns-clause-answer : goal.returns-clause-answer
returns-clause-answer c =
    let v = view c.self.inside.pass in
    let w = view c.signal_once_at.new.pass in
    of_known (asked.signal c.args.its c.args.device c.args.event) reply.Signal (known_by c.self.inside) c.args.self.now w (answer_of c.signal_once_at.result) c.answered.result c.self.view_is c.answered.ensures
    (of_message (message c.args.its (record { 0 = c.args.device }) (record { 0 = c.args.event })) (asked.signal c.args.its c.args.device c.args.event) v w c.signal_once_at.result c.signal_once_at.ensures.answer)
