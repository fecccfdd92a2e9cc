use Rattle.std.proofs.Common.{◌≡◌, Ok, ap, subst, ◌∙◌}
use Rattle.guest_windows.specs.Drafts.{laid}
use Rattle.its_plain.specs.Plain.{Plain}
use Rattle.its_plain.specs.Regions.{savable}
use Rattle.its_plain.specs.Saved.{saved}
use Rattle.owned_machine.proofs.Migrating.{in_place_is}
use Rattle.owned_machine.proofs.migrations.saved_copy.Goals as goal

pub returns : goal.returns
returns c =
    let i = c.args.parts.now in (
      subst (λ (u : Plain). savable u ≡ Ok tt) (in_place_is i) c.in_ok-pages.ensures.0,
      c.adopt.ensures ∙ ap (laid c.in_ok-pages.pages) c.in_ok-memory.ensures ∙ c.in_ok-pages.ensures.1 ∙ ap saved (in_place_is i),
    )
