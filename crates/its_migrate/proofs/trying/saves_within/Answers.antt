use Rattle.std.proofs.Common.{sym, subst}
use Rattle.its_plain.specs.Sound.{IsSound}
use Rattle.held_parts.specs.Wholes.{redists_in}
use Rattle.its_migrate.proofs.Taken.{lent_hand}
use Rattle.its_migrate.proofs.trying.saves_within.Goals as goal

pub allows-requires-clause-parts : goal.allows-requires-clause-parts
allows-requires-clause-parts g c =
    lent_hand c.in_place.result c.args.layout.now (redists_in c.args.whole.now) c.in_place.ensures.layout c.in_place.ensures.redists c.requires.hand

pub allows-requires-clause-sound : goal.allows-requires-clause-sound
allows-requires-clause-sound g c = subst IsSound (sym c.in_place.ensures.state) c.requires.sound
