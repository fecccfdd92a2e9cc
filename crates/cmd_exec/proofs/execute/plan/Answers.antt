use Rattle.std.proofs.Common.{refl}
use Rattle.cmd_exec.proofs.Executed.{plan_reply, plan_adds}
use Rattle.cmd_exec.proofs.execute.plan.Goals as goal

pub returns-clause-reply : goal.returns-clause-reply
returns-clause-reply c =
    let s = c.args.shape.now in let r = c.args.regs.now in let mr = c.args.maps.now in let memory = c.args.memory.now in let rs = c.args.redists.now in
    plan_reply s r mr memory rs c.args.command.now c.requires _ (record { command = refl; outcome = c.plan.ensures })

pub returns-clause-adds : goal.returns-clause-adds
returns-clause-adds c =
    let s = c.args.shape.now in let r = c.args.regs.now in let mr = c.args.maps.now in let memory = c.args.memory.now in let rs = c.args.redists.now in
    plan_adds s r mr memory rs c.args.command.now c.requires _ (record { command = refl; outcome = c.plan.ensures })
