use Rattle.std.proofs.Common.{sym, ◌∙◌, Some, None}
use Rattle.its_shared.proofs.Leading.{to_no_device, to_no_event, to_target}
use Rattle.its_shared.proofs.event_look.lead.Goals as goal

pub returns-in-NoDevice : goal.returns-in-NoDevice
returns-in-NoDevice c = λ u its at. to_no_device c.args.maps.now.maps c.args.dev.0 c.args.ev.0 u its at (sym c.look_up.ensures.found ∙ c.in-NoDevice.is)

pub returns-in-NoEvent : goal.returns-in-NoEvent
returns-in-NoEvent c =
    λ u its at. to_no_event c.args.maps.now.maps c.args.dev.0 c.args.ev.0 u its at c.in-NoEvent.field-0 (sym c.look_up.ensures.found ∙ c.in-NoEvent.is)

pub returns-in-Some : goal.returns-in-Some
returns-in-Some c =
    let goes = sym c.collection.ensures ∙ c.in-Some.is in (
      goes,
      λ u its at. to_target c.args.maps.now.maps c.args.dev.0 c.args.ev.0 u its at c.in-Mapped.field-0 c.in-Mapped.event (Some c.in-Some.vcpu)
          (sym c.look_up.ensures.found ∙ c.in-Mapped.is) (sym goes),
    )

pub returns-in-None : goal.returns-in-None
returns-in-None c =
    λ u its at. to_target c.args.maps.now.maps c.args.dev.0 c.args.ev.0 u its at c.in-Mapped.field-0 c.in-Mapped.event None
    (sym c.look_up.ensures.found ∙ c.in-Mapped.is) (sym c.in-None.is ∙ c.collection.ensures)
