use Rattle.owned_machine.proofs.Restored.{made_there, refused_there, layout_there, values_there, where_fault, many_values}
use Rattle.owned_machine.proofs.migrations.restored.Goals as goal

pub restore_in-requires-clause-layout : goal.restore_in-requires-clause-layout
restore_in-requires-clause-layout c =
    layout_there c.args.desc.now c.args.layout.now c.args.memory c.requires.base c.args.values.now c.values_given-given.result.now c.requires.values c.requires.given
    c.values_given-given.ensures

pub restore_in-requires-clause-given : goal.restore_in-requires-clause-given
restore_in-requires-clause-given c =
    values_there c.args.desc.now c.args.layout.now c.args.memory c.requires.base c.args.values.now c.values_given-given.result.now c.requires.values c.requires.given
    c.values_given-given.ensures c.requires.counts

pub restore_in-requires-clause-some : goal.restore_in-requires-clause-some
restore_in-requires-clause-some c = (many_values c.args.desc.now c.args.values.now c.requires.counts c.requires.values).0

pub restore_in-requires-clause-most : goal.restore_in-requires-clause-most
restore_in-requires-clause-most c = (many_values c.args.desc.now c.args.values.now c.requires.counts c.requires.values).1

pub returns-in-Ok : goal.returns-in-Ok
returns-in-Ok c =
    let e = c.in-Ok.ensures in
    let given = c.values_given-given in
    made_there c.args.desc.now c.args.layout.now c.args.memory c.requires.base c.args.values.now given.result.now c.requires.values c.requires.given given.ensures
    c.in-Ok.restored e.layout e.stands e.in_hand e.no_others

pub returns-in-Err-default-Fault : goal.returns-in-Err-default-Fault
returns-in-Err-default-Fault c =
    let e = c.in-Err-default-Fault in
    let given = c.values_given-given in
    refused_there c.args.desc.now c.args.layout.now c.args.memory c.requires.base c.args.values.now given.result.now c.requires.values c.requires.given given.ensures
    e.its e.fault (where_fault e.field-0-1 e.its e.fault _ e.field-0-1-is e.ensures.fault)
