use Rattle.its_shared.proofs.Answered.{of_known, of_part}
use Rattle.its_shared.proofs.Reading.{is_long}
use Rattle.its_shared.specs.Answers.{answer_of}
use Rattle.its_shared.specs.Asked as asked
use Rattle.its_shared.specs.Ports.{known_by}
use Rattle.its_turns.specs.Machines.{view}
use Rattle.its_types.specs.declared.machine.Part.TheVariants as part
use Rattle.its_shared.proofs.port.Port.read_memory.Goals as goal

pub returns-clause-answer : goal.returns-clause-answer
returns-clause-answer c =
    let v = view c.self.inside.pass in
    let w = view c.try_peek.new.pass in
    of_known (asked.read_memory c.args.address c.args.count) (λ k. k) (known_by c.self.inside) c.args.self.now w (answer_of c.try_peek.result) c.answered.result c.self.view_is c.answered.ensures
    (of_part part.Mem (asked.read_memory c.args.address c.args.count) (λ k. k) v w c.try_peek.result c.try_peek.ensures.answer)

pub returns-clause-count : goal.returns-clause-count
returns-clause-count c = is_long c.args.address c.args.count c.args.self.now.view (view c.try_peek.new.pass) c.answered.result (returns-clause-answer c)
