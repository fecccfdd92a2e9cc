use Rattle.step_views.proofs.Meeting.{stays_idle}
use Rattle.step_views.proofs.OfMachine.{lent_number, lent_none}
use Rattle.step_views.proofs.concern.concerned_on.Goals as goal

pub concerned_in-requires-clause-there : goal.concerned_in-requires-clause-there
concerned_in-requires-clause-there c = (
  c.args.its,
  lent_number c.args.parts.now c.in_place.result c.args.its c.translator.result c.in_place.ensures.state c.translator.ensures c.in-Some.translator c.in-Some.is,
)

pub returns-in-Some-clause-others : goal.returns-in-Some-clause-others
returns-in-Some-clause-others c =
    c.concerned_in.ensures.others c.args.its
    (lent_number c.args.parts.now c.in_place.result c.args.its c.translator.result c.in_place.ensures.state c.translator.ensures c.in-Some.translator
    c.in-Some.is)

pub returns-in-Some-clause-concerned : goal.returns-in-Some-clause-concerned
returns-in-Some-clause-concerned c =
    c.concerned_in.ensures.concerned c.args.its
    (lent_number c.args.parts.now c.in_place.result c.args.its c.translator.result c.in_place.ensures.state c.translator.ensures c.in-Some.translator
    c.in-Some.is)

pub returns-in-None-clause-others : goal.returns-in-None-clause-others
returns-in-None-clause-others c =
    let none = lent_none c.args.parts.now c.in_place.result c.args.its c.translator.result c.in_place.ensures.state c.translator.ensures c.in-None.is in
    λ vcpu out. stays_idle c.args.parts.now c.args.memory.now c.args.its none vcpu
