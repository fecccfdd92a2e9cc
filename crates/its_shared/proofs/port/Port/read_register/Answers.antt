use Rattle.its_plain.specs.declared.call.Reply.TheVariants as reply
use Rattle.its_shared.proofs.Answered.{of_known, of_part}
use Rattle.its_shared.specs.Answers.{answer_of}
use Rattle.its_shared.specs.Asked as asked
use Rattle.its_shared.specs.Ports.{known_by}
use Rattle.its_turns.specs.Machines.{view}
use Rattle.its_types.specs.declared.machine.Part.TheVariants as part
use Rattle.its_shared.proofs.port.Port.read_register.Goals as goal

pub returns-clause-answer : goal.returns-clause-answer
returns-clause-answer c =
    let v = view c.self.inside.pass in
    let w = view c.try_read_at.new.pass in
    of_known (asked.read_register c.args.its c.args.offset c.args.size) reply.Value (known_by c.self.inside) c.args.self.now w (answer_of c.try_read_at.result) c.answered.result c.self.view_is c.answered.ensures
    (of_part (part.Maps c.args.its) (asked.read_register c.args.its c.args.offset c.args.size) reply.Value v w c.try_read_at.result c.try_read_at.ensures.answer)
