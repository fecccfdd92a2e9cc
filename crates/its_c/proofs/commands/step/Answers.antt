use Rattle.std.proofs.Common.{ap}
use Rattle.its_plain.specs.Answer.{step_reply, step_left}
use Rattle.its_numbers.specs.Routes.{step_leaves_maps}
use Rattle.its_numbers.proofs.RoutesStay.{step_stays}
use Rattle.its_c.specs.Keeping.{Held}
use Rattle.its_c.proofs.RoutesStay.{counts}
use Rattle.its_c.proofs.commands.step.Goals as goal

pub returns-in-Ok-clause-routes : goal.returns-in-Ok-clause-routes
returns-in-Ok-clause-routes c =
    let h = c.args.kept.now in
    let its = c.args.translator in
    counts h c.step.new.self c.count_step.new.self (step_left h.machine its) (step_leaves_maps c.in-Ok.reply) (step_leaves_maps (step_reply h.machine its))
    c.in-Ok.ensures.left (ap (λ (k : Held). k.machine) c.count_step.ensures) (ap (λ (k : Held). k.routes) c.count_step.ensures)
    (ap step_leaves_maps c.in-Ok.ensures.reply) (λ leaves j. step_stays h.machine its j leaves)
