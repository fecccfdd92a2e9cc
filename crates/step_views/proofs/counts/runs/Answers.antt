use Rattle.std.proofs.Common.{◌∙◌}
use Rattle.its_command.specs.Commands.{op_of}
use Rattle.its_plain.specs.Commands.{ran}
use Rattle.owned_machine.specs.Lent.{on}
use Rattle.owned_parts.specs.Owned.{state_of_parts}
use Rattle.step_views.proofs.Meeting.{ran_reply}
use Rattle.step_views.proofs.OfMachine.{needed, parts_of}
use Rattle.step_views.proofs.counts.runs.Goals as goal

pub plan-planned-requires : goal.plan-planned-requires
plan-planned-requires c = needed c.args.parts.now c.args.translator c.requires.whole c.requires.there c.args.command.now

pub returns : goal.returns
returns c =
    let p = c.args.parts.now in
    λ i at. c.is_ran.ensures
    ∙ ran_reply (op_of c.args.command.now) (ran (on c.args.memory.now (state_of_parts p)) i c.args.command.now) c.step_reply.result
    (c.step_reply.ensures ∙ c.plan-planned.ensures.reply (on c.args.memory.now (state_of_parts p)) i
    (parts_of p c.args.translator c.requires.whole c.args.memory.now i at))
