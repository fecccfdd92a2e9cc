use Rattle.std.proofs.Common.{◌∙◌}
use Rattle.std.proofs.lemmas.Result.{IfOk-weaker, on_ok_weaker, on_err_weaker}
use Rattle.owned_machine.proofs.Stepped.{replies_still, leaves_still, replies_met, leaves_met, adds_met}
use Rattle.owned_machine.proofs.steps.step_of.Goals as goal

pub returns-in-Still-clause-reply : goal.returns-in-Still-clause-reply
returns-in-Still-clause-reply c =
    let t = c.args.translator.now in
    λ u i parts. replies_still u i c.args.shape.now t.regs t.maps.maps c.args.memory.now c.args.redists.now parts c.in-Still.reply c.in-Still.ensures

pub returns-in-Still-clause-left : goal.returns-in-Still-clause-left
returns-in-Still-clause-left c =
    let t = c.args.translator.now in
    λ u i parts. leaves_still u i c.args.shape.now t.regs t.maps.maps c.args.memory.now c.args.redists.now parts c.in-Still.reply c.in-Still.ensures

pub returns-in-Command-clause-reply : goal.returns-in-Command-clause-reply
returns-in-Command-clause-reply c =
    let t = c.args.translator.now in
    IfOk-weaker c.run.result _ _ (λ r h u i parts. h u i parts
    ∙ replies_met u i c.args.shape.now t.regs t.maps.maps c.args.memory.now c.args.redists.now parts c.in-Command.command c.in-Command.ensures)
    c.run.ensures.reply

pub returns-in-Command-clause-left : goal.returns-in-Command-clause-left
returns-in-Command-clause-left c =
    let t = c.args.translator.now in
    let new = c.run.new.translator in
    on_ok_weaker c.run.result (λ h u i parts. leaves_met u i c.args.shape.now t.regs t.maps.maps c.args.memory.now c.args.redists.now parts
    c.in-Command.command new.regs new.maps.maps c.run.new.redists c.in-Command.ensures (h u i parts)) c.run.ensures.left

pub returns-in-Command-clause-adding : goal.returns-in-Command-clause-adding
returns-in-Command-clause-adding c =
    let t = c.args.translator.now in
    on_err_weaker c.run.result (λ h u i parts. adds_met u i c.args.shape.now t.regs t.maps.maps c.args.memory.now c.args.redists.now parts
    c.in-Command.command c.in-Command.ensures (h u i parts)) c.run.ensures.adding
