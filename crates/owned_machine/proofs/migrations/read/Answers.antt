use Rattle.std.proofs.Common.{sym}
use Rattle.owned_machine.proofs.Restored.{made_with}
use Rattle.owned_machine.proofs.migrations.read.Goals as goal

pub returns-in_err-parts : goal.returns-in_err-parts
returns-in_err-parts c = made_with c.args.desc.now c.from_residual.result c.in_err-parts.field-0.0 c.from_residual.ensures.1 c.in_err-parts.ensures

pub restored-requires-clause-base : goal.restored-requires-clause-base
restored-requires-clause-base c =
    (c.in_ok-parts.parts, c.in_ok-parts.ensures, sym c.base_of-layout.ensures.layout, sym c.base_of-layout.ensures.memory)
