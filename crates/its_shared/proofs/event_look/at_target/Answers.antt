use Rattle.std.proofs.Common.{◌≡◌, Some, ap, sym, ◌∙◌}
use Rattle.std.specs.Prelude.{slice_get}
use Rattle.its_types.specs.declared.machine.Part.TheVariants as part
use Rattle.its_plain.specs.History.{after}
use Rattle.lpi_pending.specs.Pend.{Pend}
use Rattle.its_plain.specs.Plain.{PendState, is_on}
use Rattle.its_steps.specs.Contents as content
use Rattle.its_turns.specs.Machines.{setup, view}
use Rattle.its_turns.specs.Told.{released}
use Rattle.owned_parts.specs.Owned.{pend_state, translator_of}
use Rattle.step_views.specs.Destinations.{of_target}
use Rattle.its_shared.proofs.Leading.{target_there}
use Rattle.its_shared.proofs.Seen.{busy_second, first_right, pend_is, saw_two, second_right}
use Rattle.its_shared.proofs.event_look.at_target.Goals as goal

pub try_take_pend-requires-clause-stands : goal.try_take_pend-requires-clause-stands
try_take_pend-requires-clause-stands c =
    target_there (setup c.args.machine.now) c.args.its (translator_of c.args.maps.value) c.args.event.icid.0 c.args.vcpu c.requires.stood c.requires.goes

pub put-requires-2-clause-stands : goal.put-requires-2-clause-stands
put-requires-2-clause-stands c =
    target_there (setup c.args.machine.now) c.args.its (translator_of c.args.maps.value) c.args.event.icid.0 c.args.vcpu c.requires.stood c.requires.goes

pub returns-in-Err-clause-seen : goal.returns-in-Err-clause-seen
returns-in-Err-clause-seen c v bare first =
    let t = translator_of c.args.maps.value in
    busy_second v (view c.args.pass.now) (view c.try_take_pend.new.pass) (view c.put.new.pass) (part.Maps c.args.its) (part.Pend c.args.vcpu) (content.Maps t) first
    c.in-Err.field-0 c.in-Err.ensures.result c.put.ensures.view ⊥
    (λ u d. (slice_get u.translators c.args.its ≡ Some t) × (d ≡ of_target u c.args.event (Some c.args.vcpu)))

pub returns-clause-seen : goal.returns-clause-seen
returns-clause-seen c v bare first =
    let t = translator_of c.args.maps.value in
    let p = pend_state c.in-Ok.pend.value in
    let y = view c.args.pass.now in
    let w = view c.try_take_pend.new.pass in
    let x = view c.look-word.new.pass in
    let z = view c.put-3.new.pass in
    let word = c.look-word.result in
    let looks = c.look-word.ensures.looks in
    let second = c.in-Ok.ensures.result.0.view in
    let home = c.put-3.ensures.view ∙ ap released c.put-2.ensures.view in
    let one = part.Maps c.args.its in
    let two = part.Pend c.args.vcpu in
    let u = after v.setup.start z.seen in
    let right = second_right v y w x z one two (content.Maps t) (content.Pend p) first second word looks home in
    let on : is_on u c.args.vcpu.0 ≡ c.accepts-on.result =
    ap (λ (s : PendState). s.accepts) (pend_is u c.args.vcpu.0 p right) ∙ (ap (λ (q : Pend). q.accepts) (sym c.deref.ensures) ∙ sym c.accepts-on.ensures) in (
      saw_two v y w x z one two (content.Maps t) (content.Pend p) first second word looks home,
      (
        first_right v y w x z one two (content.Maps t) (content.Pend p) first second word looks home,
        c.target.ensures u on,
      ),
    )
