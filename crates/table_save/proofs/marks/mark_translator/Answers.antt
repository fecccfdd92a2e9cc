use Rattle.std.specs.FinMap.{entries}
use Rattle.its_plain.specs.Plain.{Translator}
use Rattle.its_plain.specs.Saved.{device_words, collection_words}
use Rattle.table_save.specs.Tables.{itt_tables}
use Rattle.table_save.proofs.Marked.{all_marked}
use Rattle.table_save.proofs.marks.mark_translator.Goals as goal

pub returns : goal.returns
returns c s =
    let t : Translator = record { regs = c.args.translator.regs.now; maps = c.args.translator.maps.now.maps } in
    all_marked c.args.track.now c.mark_devices.new.track c.mark_collections.new.track c.mark_itts.new.track (device_words t c.args.from.now)
    (collection_words s t) (itt_tables t.maps (entries t.maps.devices)) (c.mark_devices.ensures t.maps) (c.mark_collections.ensures s t.maps) c.mark_itts.ensures
