use Rattle.std.proofs.Common.{ap, ◌∙◌}
use Rattle.its_plain.specs.Saved.{wrote_tables}
use Rattle.table_save.proofs.Entries.{words_are}
use Rattle.table_save.proofs.SoundState.{fits}
use Rattle.table_save.proofs.marks.mark_tables.Goals as goal

pub mark_all-requires : goal.mark_all-requires
mark_all-requires c = fits c.args.parts.now c.requires.parts c.requires.sound

pub returns : goal.returns
returns c = c.mark_all.ensures ∙ ap (λ ws. wrote_tables ws c.args.track.now) (words_are c.args.parts.now)
