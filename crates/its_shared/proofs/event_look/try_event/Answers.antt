use Rattle.std.proofs.Common.{◌≡◌, Some, ap, sym, ◌∙◌}
use Rattle.std.specs.Prelude.{slice_get}
use Rattle.its_types.specs.declared.machine.Part.TheVariants as part
use Rattle.its_plain.specs.History.{after}
use Rattle.its_steps.specs.Contents as content
use Rattle.its_turns.specs.Machines.{view}
use Rattle.owned_parts.specs.Owned.{translator_of}
use Rattle.owned_parts.specs.declared.parts.Translator.{Translator}
use Rattle.step_views.specs.Destinations.{destination, of_target}
use Rattle.its_shared.proofs.Seen.{maps_are, one_right, saw_one, sees_more}
use Rattle.its_shared.proofs.event_look.try_event.Goals as goal

pub returns-in-Ok-lead-clause-seen : goal.returns-in-Ok-lead-clause-seen
returns-in-Ok-lead-clause-seen c =
    let t = translator_of c.in-Ok.maps.value in
    let event = c.in-Ok-lead.event in
    let vcpu = c.in-Ok-lead.vcpu in
    sees_more ⊥ (λ u d. (slice_get u.translators c.args.its ≡ Some t) × (d ≡ of_target u event (Some vcpu)))
    (λ u d. d ≡ destination u c.args.its c.args.dev.0 c.args.ev.0) (view c.args.pass.now) (view c.at_target.new.pass) c.at_target.result
    (λ u d is. is.1 ∙ sym (c.in-Ok-lead.ensures.1 u c.args.its (maps_are u c.args.its t is.0 ∙ ap (λ (x : Translator). x.maps.maps) (sym c.deref.ensures))))
    (c.at_target.ensures.seen (view c.args.pass.now) c.requires.free c.in-Ok.ensures.result.view)

pub returns-in-Err-lead-clause-seen : goal.returns-in-Err-lead-clause-seen
returns-in-Err-lead-clause-seen c =
    let v = view c.args.pass.now in
    let w = view c.try_take_maps.new.pass in
    let x = view c.look-word.new.pass in
    let z = view c.put.new.pass in
    let t = translator_of c.in-Ok.maps.value in
    let taken = c.in-Ok.ensures.result.view in
    let looks = c.look-word.ensures.looks in
    let u = after v.setup.start z.seen in
    let right = one_right v w x z (part.Maps c.args.its) (content.Maps t) taken c.look-word.result looks c.put.ensures.view in (
      saw_one v w x z (part.Maps c.args.its) (content.Maps t) taken c.look-word.result looks c.put.ensures.view,
      sym (c.in-Err-lead.ensures u c.args.its (maps_are u c.args.its t right ∙ ap (λ (x : Translator). x.maps.maps) (sym c.deref.ensures))),
    )
