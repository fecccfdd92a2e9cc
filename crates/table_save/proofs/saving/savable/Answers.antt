use Rattle.table_save.proofs.SoundState.{fits}
use Rattle.table_save.proofs.saving.savable.Goals as goal

pub savable_in-requires-clause-fits : goal.savable_in-requires-clause-fits
savable_in-requires-clause-fits c = fits c.args.parts.now c.requires.parts c.requires.sound
