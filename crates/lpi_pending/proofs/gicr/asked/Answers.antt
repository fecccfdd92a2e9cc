use Rattle.std.proofs.Common.{◌≡◌, subst, sym, ap, ◌∙◌}
use Rattle.its_types.specs.declared.translation.Bases.{Bases}
use Rattle.gicr_regs.specs.Registers.{Sets, asked_by}
use Rattle.gicr_regs.specs.declared.write.GicrWrite.{GicrWrite}
use Rattle.lpi_pending.proofs.AskedBases.{asked_keeps}
use Rattle.lpi_pending.proofs.gicr.asked.Goals as goal

pub returns-clause-same : goal.returns-clause-same
returns-clause-same c =
    let b : Bases = c.args.conf.now.bases in
    let is = c.asked_by.ensures.asked ∙ ap (λ (n : Bases). asked_by n c.args.off c.args.size c.args.value) c.bases.ensures in
    subst (λ (w : GicrWrite). Sets (λ n. n.on ≡ b.on) w) (sym is) (asked_keeps b c.args.off c.args.size c.args.value)
