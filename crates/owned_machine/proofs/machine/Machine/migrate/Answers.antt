use Rattle.std.proofs.Common.{◌≡◌, Ok, ap, subst, ◌∙◌}
use Rattle.its_plain.specs.Plain.{Plain}
use Rattle.its_plain.specs.Regions.{savable}
use Rattle.its_plain.specs.Saved.{moved}
use Rattle.owned_parts.specs.Owned.{state_of_parts}
use Rattle.owned_machine.proofs.Migrating.{lent_whole, moved_from}
use Rattle.owned_machine.proofs.machine.Machine.migrate.Goals as goal

pub moved-requires : goal.moved-requires
moved-requires c =
    let at = c.in_place in
    lent_whole c.self.inside.parts at.result c.self.invariant at.ensures.state at.ensures.layout at.ensures.redists

pub returns : goal.returns
returns c =
    let next = c.in_ok-next.next in
    let h = moved_from c.self.inside.parts c.in_place.result next c.in_place.ensures.state c.in_ok-next.ensures in (
      subst (λ (u : Plain). savable u ≡ Ok tt) c.self.view_is h.0,
      ap state_of_parts c.go_on.ensures ∙ h.1.state ∙ ap moved c.self.view_is,
    )
