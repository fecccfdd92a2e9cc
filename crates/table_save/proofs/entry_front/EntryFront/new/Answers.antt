use Rattle.its_plain.specs.Plain.{Translator}
use Rattle.std.proofs.Common.{◌∙◌}
use Rattle.table_save.proofs.EntriesLeft.{leaves_all}
use Rattle.table_save.proofs.entry_front.EntryFront.new.Goals as goal

pub returns : goal.returns
returns c =
    let t : Translator = record { regs = c.args.regs.now; maps = c.args.maps.now.maps } in
    leaves_all c.args.shape t c.named_places-places.result _ c.next_named.result c.named_places-places.ensures.places
    (c.taken-first.ensures ∙ c.collections-rest.ensures.collections) c.next_named.ensures
