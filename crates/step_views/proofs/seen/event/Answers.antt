use Rattle.step_views.proofs.Leads.{to_nothing}
use Rattle.step_views.proofs.OfMachine.{lent_number, lent_none}
use Rattle.step_views.proofs.seen.event.Goals as goal

pub destination_in-requires-clause-there : goal.destination_in-requires-clause-there
destination_in-requires-clause-there c = (
  c.args.its,
  lent_number c.args.parts.now c.in_place.result c.args.its c.translator.result c.in_place.ensures.state c.translator.ensures c.in-Some.translator c.in-Some.is,
)

pub returns-in-Some : goal.returns-in-Some
returns-in-Some c =
    c.destination_in.ensures c.args.its
    (lent_number c.args.parts.now c.in_place.result c.args.its c.translator.result c.in_place.ensures.state c.translator.ensures c.in-Some.translator
    c.in-Some.is)

pub returns-in-None : goal.returns-in-None
returns-in-None c =
    to_nothing c.args.parts.now c.args.its c.args.dev.0 c.args.ev.0
    (lent_none c.args.parts.now c.in_place.result c.args.its c.translator.result c.in_place.ensures.state c.translator.ensures c.in-None.is)
