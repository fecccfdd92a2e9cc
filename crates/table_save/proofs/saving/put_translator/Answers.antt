use Rattle.std.proofs.lemmas.Result.{on_ok_weaker}
use Rattle.std.specs.FinMap.{entries}
use Rattle.its_plain.specs.Plain.{Translator}
use Rattle.its_plain.specs.Saved.{device_words, collection_words}
use Rattle.guest_windows.specs.Drafts.{laid}
use Rattle.table_save.specs.Tables.{itt_tables}
use Rattle.table_save.proofs.Entries.{all_written}
use Rattle.table_save.proofs.saving.put_translator.Goals as goal

pub returns : goal.returns
returns c =
    let t : Translator = record { regs = c.args.translator.regs.now; maps = c.args.translator.maps.now.maps } in
    on_ok_weaker c.put_itts.result (all_written (laid c.args.draft.now c.args.under.now) (laid c.put_devices.new.draft c.args.under.now)
    (laid c.put_collections.new.draft c.args.under.now) (laid c.put_itts.new.draft c.args.under.now)
    (device_words t c.args.under.now) (collection_words c.args.shape t) (itt_tables t.maps (entries t.maps.devices)) c.in_ok-put_devices.ensures
    c.in_ok-put_collections.ensures) c.put_itts.ensures
