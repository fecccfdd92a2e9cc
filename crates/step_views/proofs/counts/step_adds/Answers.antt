use Rattle.step_views.proofs.Meeting.{adds_idle}
use Rattle.step_views.proofs.OfMachine.{lent_number, lent_none}
use Rattle.step_views.proofs.counts.step_adds.Goals as goal

pub adds-requires-clause-there : goal.adds-requires-clause-there
adds-requires-clause-there c = (
  c.args.its,
  lent_number c.args.parts.now c.in_place.result c.args.its c.translator.result c.in_place.ensures.state c.translator.ensures c.in-Some.translator c.in-Some.is,
)

pub returns-in-Some : goal.returns-in-Some
returns-in-Some c =
    c.adds.ensures c.args.its
    (lent_number c.args.parts.now c.in_place.result c.args.its c.translator.result c.in_place.ensures.state c.translator.ensures c.in-Some.translator
    c.in-Some.is)

pub returns-in-None : goal.returns-in-None
returns-in-None c =
    adds_idle c.args.parts.now c.args.memory.now c.args.its
    (lent_none c.args.parts.now c.in_place.result c.args.its c.translator.result c.in_place.ensures.state c.translator.ensures c.in-None.is) c.args.what
