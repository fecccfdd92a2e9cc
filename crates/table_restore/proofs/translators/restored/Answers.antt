use Rattle.table_restore.specs.Outcome.{RestoredTranslator}
use Rattle.table_restore.specs.declared.error.TableError.TheVariants as errors
use Rattle.table_restore.proofs.Begun.{the_translator, register_fault, table_fault, handed}
use Rattle.table_restore.proofs.translators.restored.Goals as goal

pub returns-in_err-regs : goal.returns-in_err-regs
returns-in_err-regs c =
    handed (RestoredTranslator c.args.shape c.args.memory.now c.args.values) c.from_residual.result (errors.Fault c.in_err-regs.field-0.0)
    c.from_residual.ensures.1 (register_fault c.args.shape c.requires c.args.memory.now c.args.values c.in_err-regs.field-0.0 c.in_err-regs.ensures)

pub returns-in_err-maps : goal.returns-in_err-maps
returns-in_err-maps c =
    handed (RestoredTranslator c.args.shape c.args.memory.now c.args.values) c.from_residual-in_err-maps.result c.in_err-maps.field-0.0
    c.from_residual-in_err-maps.ensures.1
    (table_fault c.args.shape c.requires c.args.memory.now c.args.values c.in_ok-regs.regs c.in_err-maps.field-0.0 c.in_ok-regs.ensures c.in_err-maps.ensures)

pub returns : goal.returns
returns c =
    the_translator c.args.shape c.requires c.args.memory.now c.args.values c.in_ok-regs.regs c.in_ok-maps.maps.maps c.in_ok-regs.ensures c.in_ok-maps.ensures
