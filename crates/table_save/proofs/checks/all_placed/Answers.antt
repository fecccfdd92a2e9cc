use Rattle.std.proofs.Common.{Err, ap, sym, ◌∙◌}
use Rattle.std.proofs.lemmas.Result.{err_from_is_err_and}
use Rattle.table_save.proofs.Tested.{first_has_none, first_has_all}
use Rattle.table_save.proofs.checks.all_placed.Goals as goal

pub returns-in_err-placed : goal.returns-in_err-placed
returns-in_err-placed c =
    let p = err_from_is_err_and c.from_residual.result c.from_residual.ensures.1 in
    let parts = c.args.parts.now in
    p.1 ∙ sym (first_has_none parts.memory.now parts.first parts.second p.0 (sym c.placed.ensures ∙ c.in_err-placed.was ∙ ap Err (sym p.2)))

pub returns : goal.returns
returns c =
    let parts = c.args.parts.now in
    c.second_placed.ensures ∙ sym (first_has_all parts.memory.now parts.first parts.second (sym c.placed.ensures ∙ c.in_ok-placed.was))
