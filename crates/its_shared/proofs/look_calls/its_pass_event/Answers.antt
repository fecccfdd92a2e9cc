use Rattle.std.proofs.Common.{◌≡◌, ap, sym, ◌∙◌}
use Rattle.its_numbers.specs.Events.{event_out}
use Rattle.step_views.specs.Destinations.{destination}
use Rattle.its_shared.specs.declared.pass.Pass.{Pass}
use Rattle.its_shared.proofs.Seen.{same_some, shows_of}
use Rattle.its_shared.proofs.Shown.{shows_one}
use Rattle.its_shared.proofs.look_calls.its_pass_event.Goals as goal

pub returns-clause-told : goal.returns-clause-told
returns-clause-told c k l before later has =
    let old = c.lent-port.result.now in
    let now = c.event.new.self in
    shows_of _ _ old now k l _ _ _ _ _ (same_some old k (sym c.lent-port.ensures.value ∙ (ap (λ (p : Pass). p.known) c.is_empty.ensures.1 ∙ before)))
    (same_some now l later)
    (shows_one ⊥ (λ u before after. after ≡ event_out (destination u c.args.translator c.args.device c.args.event)) old now c.event.result c.told.result c.args.place.now
    c.told.new.place c.args.out.now c.told.new.out c.event.ensures.seen c.told.ensures.code c.told.ensures.place c.told.ensures.out)
