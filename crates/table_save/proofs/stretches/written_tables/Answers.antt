use Rattle.guest_windows.specs.Fields.{pairs}
use Rattle.table_save.proofs.Entries.{words_are}
use Rattle.table_save.proofs.Listed.{listed_first}
use Rattle.table_save.proofs.SoundState.{fits}
use Rattle.table_save.proofs.stretches.written_tables.Goals as goal

pub list_all-requires : goal.list_all-requires
list_all-requires c = fits c.args.parts.now c.requires.parts c.requires.sound

pub returns : goal.returns
returns c =
    listed_first c.new-list.result.items (pairs c.list_all.new.list.items) _ _ c.new-list.ensures.items c.in_ok-list_all.ensures (words_are c.args.parts.now)
