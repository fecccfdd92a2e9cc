use Rattle.std.proofs.Common.{sym, ◌∙◌, Some, None}
use Rattle.step_views.proofs.Leads.{to_no_device, to_no_event, to_target}
use Rattle.step_views.proofs.OfMachine.{targets}
use Rattle.step_views.proofs.seen.destination_in.Goals as goal

pub returns-in-NoDevice : goal.returns-in-NoDevice
returns-in-NoDevice c =
    λ i at. to_no_device c.args.parts.now c.args.translator c.requires.whole i at c.args.dev.0 c.args.ev.0 (sym c.look_up.ensures.found ∙ c.in-NoDevice.is)

pub returns-in-NoEvent : goal.returns-in-NoEvent
returns-in-NoEvent c =
    λ i at. to_no_event c.args.parts.now c.args.translator c.requires.whole i at c.args.dev.0 c.args.ev.0 c.in-NoEvent.field-0
    (sym c.look_up.ensures.found ∙ c.in-NoEvent.is)

pub target-requires-clause-below : goal.target-requires-clause-below
target-requires-clause-below c =
    targets c.args.parts.now c.args.translator c.requires.whole c.requires.there c.in-Mapped.event.icid.0 c.in-Some.vcpu
    (sym c.collection.ensures ∙ c.in-Some.is)

pub returns-in-Some : goal.returns-in-Some
returns-in-Some c =
    λ i at. c.target.ensures
    ∙ to_target c.args.parts.now c.args.translator c.requires.whole i at c.args.dev.0 c.args.ev.0 c.in-Mapped.field-0 c.in-Mapped.event (Some c.in-Some.vcpu)
    (sym c.look_up.ensures.found ∙ c.in-Mapped.is) (sym c.in-Some.is ∙ c.collection.ensures)

pub returns-in-None : goal.returns-in-None
returns-in-None c =
    λ i at. to_target c.args.parts.now c.args.translator c.requires.whole i at c.args.dev.0 c.args.ev.0 c.in-Mapped.field-0 c.in-Mapped.event None
    (sym c.look_up.ensures.found ∙ c.in-Mapped.is) (sym c.in-None.is ∙ c.collection.ensures)
