use Rattle.its_plain.specs.Stands.{IsFirstFault}
use Rattle.owned_parts.specs.Owned.{translators_of}
use Rattle.standing_states.specs.Laws.{bases_to_restore}
use Rattle.table_restore.specs.Outcome.{IfFault}
use Rattle.table_restore.proofs.Begun.{handed}
use Rattle.table_restore.proofs.Whole.{stands, all_in_hand, translator_fault, redist_fault}
use Rattle.table_restore.proofs.parts.find.Goals as goal

pub returns-in-Err-clause-fault : goal.returns-in-Err-clause-fault
returns-in-Err-clause-fault c =
    let l = c.args.layout.now in
    redist_fault l.shape c.args.memory.now c.args.values.now (bases_to_restore l c.args.gicr.now) c.in-Err.error c.of.result c.of.ensures
    c.in-Err.ensures.redists

pub returns-in_err-begun-clause-fault : goal.returns-in_err-begun-clause-fault
returns-in_err-begun-clause-fault c =
    let l = c.args.layout.now in
    let bases = bases_to_restore l c.args.gicr.now in
    handed (λ r. IfFault r (IsFirstFault c.args.memory.now c.args.values.now l.shape bases)) c.from_residual.result c.in_err-begun.field-0.0
    c.from_residual.ensures.1
    (translator_fault l c.args.memory.now c.args.values.now bases c.requires.layout.shape c.in-Ok.ensures.many c.in-Ok.redists c.in-Ok.ensures.redists
    c.in_err-begun.field-0.0 c.in_err-begun.ensures.fault)

pub returns-clause-stands : goal.returns-clause-stands
returns-clause-stands c =
    let l = c.args.layout.now in
    let b = c.in_ok-begun.begun in
    let e = c.in_ok-begun.ensures in
    stands l c.args.memory.now c.args.values.now (bases_to_restore l c.args.gicr.now) c.requires.layout.shape c.in-Ok.ensures.many c.in-Ok.redists
    c.in-Ok.ensures.redists b.layout (translators_of b.translators.0 b.translators.1) b.track e.layout e.track e.translators

pub returns-clause-in_hand : goal.returns-clause-in_hand
returns-clause-in_hand c =
    let l = c.args.layout.now in
    all_in_hand l c.args.memory.now c.args.values.now (bases_to_restore l c.args.gicr.now) c.requires.layout.shape c.in-Ok.ensures.many c.in-Ok.redists
    c.in-Ok.ensures.redists
