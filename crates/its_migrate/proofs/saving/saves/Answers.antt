use Rattle.held_parts.specs.Wholes.{redists_in}
use Rattle.its_migrate.proofs.Taken.{lent_hand}
use Rattle.its_migrate.proofs.saving.saves.Goals as goal

pub saved_pages-requires-clause-parts : goal.saved_pages-requires-clause-parts
saved_pages-requires-clause-parts c =
    lent_hand c.in_place.result c.args.layout.now (redists_in c.args.whole.now) c.in_place.ensures.layout c.in_place.ensures.redists c.requires.hand
