use Rattle.owned_machine.proofs.Restored.{begun_refused}
use Rattle.owned_machine.proofs.migrations.begin.Goals as goal

pub fresh-requires : goal.fresh-requires
fresh-requires c = c.in_ok-parts.ensures.1

pub returns-in_err-parts : goal.returns-in_err-parts
returns-in_err-parts c = begun_refused c.args.desc.now c.from_residual.result c.in_err-parts.field-0.0 c.from_residual.ensures.1 c.in_err-parts.ensures
