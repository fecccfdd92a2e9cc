use Rattle.std.specs.List.{flat_map}
use Rattle.its_plain.specs.Saved.{pending_words}
use Rattle.table_save.specs.Areas.{redistributors_of}
use Rattle.table_save.specs.Fits.{words_at, second_words}
use Rattle.table_save.proofs.Marked.{all_marked}
use Rattle.table_save.proofs.marks.mark_all.Goals as goal

pub returns : goal.returns
returns c =
    let p = c.args.parts.now in
    all_marked c.args.track.now c.mark_translator.new.track c.mark_second.new.track c.mark_pending.new.track (words_at p.layout.now.shape p.memory.now p.first)
    (second_words p.layout.now.shape p.memory.now p.second) (flat_map (pending_words p.layout.now.shape) (redistributors_of p.layout.now.shape p.redists.now))
    (c.mark_translator.ensures p.layout.now.shape) (c.mark_second.ensures p.layout.now.shape) c.mark_pending.ensures
