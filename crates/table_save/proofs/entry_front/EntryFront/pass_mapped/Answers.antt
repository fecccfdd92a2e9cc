use Rattle.table_save.proofs.EntriesLeft.{none_to_write, mapped_passed}
use Rattle.table_save.proofs.entry_front.EntryFront.pass_mapped.Goals as goal

pub returns-in-None : goal.returns-in-None
returns-in-None c es h =
    let f = c.args.self.now in
    none_to_write f.maps.now.maps f.places f.from f.first f.rest f.named es h c.requires c.in-None.is

pub returns-in-Some : goal.returns-in-Some
returns-in-Some c es h =
    let f = c.args.self.now in
    mapped_passed f.maps.now.maps f.places f.from f.first f.rest f.named es h (c.in-Some.icid, c.in-Some.vcpu) c.in-Some.is c.requires c.from.result
    c.after-self.result _ c.from.ensures c.after-self.ensures.after c.taken-self.ensures
