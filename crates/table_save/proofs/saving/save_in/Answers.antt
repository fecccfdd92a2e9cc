use Rattle.std.proofs.Common.{◌++◌, ◌∙◌, ap}
use Rattle.std.proofs.lemmas.Result.{on_ok_weaker}
use Rattle.std.specs.List.{flat_map}
use Rattle.its_plain.specs.Saved.{put_tables, pending_words}
use Rattle.table_save.specs.Areas.{redistributors_of}
use Rattle.table_save.specs.Fits.{words_at, second_words}
use Rattle.table_save.proofs.Entries.{words_are}
use Rattle.table_save.proofs.SoundState.{fits}
use Rattle.table_save.proofs.saving.save_in.Goals as goal

pub put_all-requires : goal.put_all-requires
put_all-requires c = record { fits = fits c.args.parts.now c.requires.parts c.requires.sound }

pub returns : goal.returns
returns c =
    let p = c.args.parts.now in
    let words = (words_at p.layout.now.shape p.memory.now p.first ++ second_words p.layout.now.shape p.memory.now p.second)
    ++ flat_map (pending_words p.layout.now.shape) (redistributors_of p.layout.now.shape p.redists.now) in
    on_ok_weaker c.put_all.result (λ written. written ∙ ap (λ m. put_tables m words) c.requires.same ∙ ap (put_tables p.memory.now) (words_are p))
    c.put_all.ensures
