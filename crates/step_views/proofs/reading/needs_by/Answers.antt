use Rattle.std.proofs.Common.{◌∙◌}
use Rattle.step_views.proofs.Meeting.{by_none}
use Rattle.step_views.proofs.OfMachine.{lent_number, lent_none}
use Rattle.step_views.proofs.reading.needs_by.Goals as goal

pub returns-in-Some-clause-needs : goal.returns-in-Some-clause-needs
returns-in-Some-clause-needs c =
    c.needs_of_bytes.ensures.needs c.args.its
    (lent_number c.args.parts.now c.in_place.result c.args.its c.translator.result c.in_place.ensures.state c.translator.ensures c.in-Some.translator
    c.in-Some.is)

pub returns-in-None-clause-needs : goal.returns-in-None-clause-needs
returns-in-None-clause-needs c =
    c.none.ensures ∙ by_none c.args.parts.now c.args.parts.now.memory c.args.its
    (lent_none c.args.parts.now c.in_place.result c.args.its c.translator.result c.in_place.ensures.state c.translator.ensures c.in-None.is) c.args.command.now
