use Rattle.its_plain.specs.Answer.{save_reply}
use Rattle.its_plain.specs.declared.call.Call.TheVariants as call
use Rattle.its_shared.proofs.Answered.{of_known, of_save}
use Rattle.its_shared.specs.Answers.{answer_or_unsaved}
use Rattle.its_shared.specs.Ports.{known_by}
use Rattle.its_turns.specs.Machines.{view}
use Rattle.its_shared.proofs.port.Port.save.Goals as goal

pub returns-clause-answer : goal.returns-clause-answer
returns-clause-answer c =
    let v = view c.self.inside.pass in
    let w = view c.try_save_within.new.pass in
    of_known call.Save save_reply (known_by c.self.inside) c.args.self.now w (answer_or_unsaved c.try_save_within.result) c.answered_saved.result c.self.view_is c.answered_saved.ensures
    (of_save v w c.try_save_within.result c.try_save_within.ensures.answer)
