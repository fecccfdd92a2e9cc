use Rattle.std.proofs.lemmas.Result.{on_ok_weaker}
use Rattle.std.specs.List.{flat_map}
use Rattle.its_plain.specs.Saved.{pending_words}
use Rattle.guest_windows.specs.Drafts.{laid}
use Rattle.table_save.specs.Areas.{redistributors_of}
use Rattle.table_save.specs.Fits.{words_at, second_words}
use Rattle.table_save.proofs.Entries.{all_written}
use Rattle.table_save.proofs.saving.put_all.Goals as goal

pub returns : goal.returns
returns c =
    let p = c.args.parts.now in
    on_ok_weaker c.put_pending.result
    (all_written (laid c.args.draft.now c.args.parts.now.memory.now) (laid c.put_translator.new.draft c.args.parts.now.memory.now)
    (laid c.put_second.new.draft c.args.parts.now.memory.now) (laid c.put_pending.new.draft c.args.parts.now.memory.now)
    (words_at p.layout.now.shape p.memory.now p.first) (second_words p.layout.now.shape p.memory.now p.second)
    (flat_map (pending_words p.layout.now.shape) (redistributors_of p.layout.now.shape p.redists.now)) c.in_ok-put_translator.ensures
    c.in_ok-put_second.ensures) c.put_pending.ensures
