use Rattle.table_save.proofs.EntriesLeft.{named_passed}
use Rattle.table_save.proofs.entry_front.EntryFront.pass_named.Goals as goal

pub returns : goal.returns
returns c es h =
    let f = c.args.self.now in
    named_passed f.maps.now.maps f.places f.from f.first f.rest f.named es h c.args.icid c.after-self.result c.next_named-self.result c.requires.named
    c.requires.first c.after-self.ensures.after c.next_named-self.ensures
