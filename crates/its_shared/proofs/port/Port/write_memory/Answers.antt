use Rattle.its_shared.proofs.Answered.{of_known, of_write}
use Rattle.its_shared.specs.Answers.{answer_or_unheld}
use Rattle.its_shared.specs.Asked as asked
use Rattle.its_shared.specs.Ports.{known_by}
use Rattle.its_turns.specs.Machines.{view}
use Rattle.its_shared.proofs.port.Port.write_memory.Goals as goal

pub returns-clause-answer : goal.returns-clause-answer
returns-clause-answer c =
    let v = view c.self.inside.pass in
    let w = view c.try_poke_within.new.pass in
    of_known (asked.write_memory c.args.address c.args.bytes) (λ k. k) (known_by c.self.inside) c.args.self.now w (answer_or_unheld c.try_poke_within.result) c.answered_held.result c.self.view_is c.answered_held.ensures
    (of_write c.args.address c.args.bytes v w c.try_poke_within.result c.try_poke_within.ensures.answer)
