use Rattle.std.proofs.Common.{◌≡◌, Err, sym, ap, subst, ◌∙◌}
use Rattle.guest_windows.specs.Windows.{inside}
use Rattle.its_plain.specs.Machine as spec
use Rattle.its_plain.specs.declared.desc.DescFault.TheVariants as faults
use Rattle.its_plain.specs.declared.desc.LpiTables.{LpiTables}
use Rattle.owned_machine.proofs.Started.{no_config}
use Rattle.owned_machine.proofs.make.has_config.Goals as goal

pub returns-in-Described-clause-lacks : goal.returns-in-Described-clause-lacks
returns-in-Described-clause-lacks c =
    let s = c.args.shape.now in
    let memory = c.args.memory.now in
    let config = c.in-Described.config in
    λ out. subst (λ (t : LpiTables). spec.first_redistributors s memory t ≡ Err faults.Config) (sym c.in-Described.is)
    (no_config s memory config c.in-Described.pending (ap (inside memory config.0) (sym c.lpi_count.ensures.count) ∙ sym c.inside.ensures.inside ∙ out))
