use Rattle.std.proofs.Common.{◌≡◌, Ok, Err, ap, ◌∙◌, subst}
use Rattle.its_numbers.specs.Events.{event_out}
use Rattle.step_views.specs.Destinations.{destination}
use Rattle.its_turns.specs.Machines.{view}
use Rattle.its_shared.specs.Knowing.{Known}
use Rattle.its_shared.specs.Seeing.{Sees}
use Rattle.its_shared.proofs.port.Port.event.Goals as goal

pub returns-clause-seen : goal.returns-clause-seen
returns-clause-seen c =
    let seen = c.in-Ok.ensures.seen in
    subst (λ (k : Known). Sees ⊥ (λ u x. x ≡ event_out (destination u c.args.its c.args.device c.args.event)) k.view (view c.try_event.new.pass)
    (Ok (record { place = c.in-Ok.seen.place; reply = c.event_out.result }))) c.self.view_is (seen.0, c.event_out.ensures ∙ ap event_out seen.1)

pub returns-in-Err-clause-seen : goal.returns-in-Err-clause-seen
returns-in-Err-clause-seen c =
    subst (λ (k : Known). Sees ⊥ (λ u x. x ≡ event_out (destination u c.args.its c.args.device c.args.event)) k.view (view c.try_event.new.pass)
    (Err c.in-Err.unseen)) c.self.view_is c.in-Err.ensures.seen
