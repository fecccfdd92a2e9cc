use Rattle.std.proofs.Common.{None, arith}
use Rattle.std.specs.Prelude.{get_or}
use Rattle.owned_parts.specs.Owned.{translator_of}
use Rattle.table_restore.specs.Outcome.{BegunTranslators}
use Rattle.table_restore.proofs.Begun.{handed, second_wrong, item_there}
use Rattle.table_restore.proofs.translators.begin_all.Goals as goal

pub returns-in_err-second : goal.returns-in_err-second
returns-in_err-second c =
    let values = c.args.values.now in
    handed (BegunTranslators c.args.shape c.args.memory.now values) c.from_residual-in_err-second.result c.in_err-second.field-0.0
    c.from_residual-in_err-second.ensures.1
    (second_wrong c.args.shape c.args.memory.now values (get_or values 0 None) (get_or values 1 None) (translator_of c.in_ok-first.first)
    c.in_err-second.field-0.0 (item_there values 0 None (omega (arith, c.requires.some)))
    (item_there values 1 None (omega (arith, c.requires.some, c.if-values-eq1.false))) c.in_ok-first.ensures c.in_err-second.ensures)
