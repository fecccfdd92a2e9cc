use Rattle.std.proofs.Common.{ap}
use Rattle.its_plain.specs.Answer.{step_reply}
use Rattle.owned_machine.specs.Lent.{on, left_on}
use Rattle.its_numbers.specs.Routes.{step_leaves_maps}
use Rattle.its_numbers.proofs.RoutesStay.{step_stays}
use Rattle.its_c.specs.Keeping.{Held}
use Rattle.its_c.proofs.RoutesStay.{counts}
use Rattle.its_c.proofs.commands.step_on.Goals as goal

pub returns-in-Ok-clause-routes : goal.returns-in-Ok-clause-routes
returns-in-Ok-clause-routes c =
    let h = c.args.kept.now in
    let x = on c.args.memory.now h.machine in
    counts h c.step_on.new.self c.count_step.new.self (left_on c.args.memory.now h.machine c.args.its) (step_leaves_maps c.in-Ok.reply)
    (step_leaves_maps (step_reply x c.args.its)) c.in-Ok.ensures.left (ap (λ (k : Held). k.machine) c.count_step.ensures)
    (ap (λ (k : Held). k.routes) c.count_step.ensures) (ap step_leaves_maps c.in-Ok.ensures.reply) (λ leaves j. step_stays x c.args.its j leaves)
