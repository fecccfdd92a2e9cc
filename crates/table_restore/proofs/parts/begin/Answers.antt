use Rattle.table_restore.specs.Outcome.{IfFault, IsFirstOf}
use Rattle.table_restore.proofs.Begun.{handed}
use Rattle.table_restore.proofs.Whole.{first_of}
use Rattle.table_restore.proofs.parts.begin.Goals as goal

pub returns-in_err-translators-clause-fault : goal.returns-in_err-translators-clause-fault
returns-in_err-translators-clause-fault c =
    let s = c.args.layout.now.shape in
    handed (λ r. IfFault r (IsFirstOf s c.args.memory.now c.args.values.now)) c.from_residual.result c.in_err-translators.field-0.0 c.from_residual.ensures.1
    (first_of s c.args.memory.now c.args.values.now c.in_err-translators.field-0.0 c.in_err-translators.ensures)
