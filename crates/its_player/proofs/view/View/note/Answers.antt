use Rattle.std.proofs.Common.{ap}
use Rattle.its_steps.specs.World.{View}
use Rattle.its_steps.specs.declared.standing.Standing.TheVariants.{Note}
use Rattle.its_player.proofs.view.View.note.Goals as goal

pub returns-clause-note : goal.returns-clause-note
returns-clause-note c = λ s. ap (λ (u : View). record u { standing = Note }) (c.fresh-note.ensures s)
