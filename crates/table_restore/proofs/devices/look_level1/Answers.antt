use Rattle.std.proofs.Common.{ap, sym, ◌∙◌}
use Rattle.its_plain.specs.declared.fault.RestoreFault.TheVariants.{OutsideTable}
use Rattle.table_restore.proofs.Steps.{level1_is}
use Rattle.table_restore.proofs.devices.look_level1.Goals as goal

pub returns-in-Outside : goal.returns-in-Outside
returns-in-Outside c =
    let w = level1_is c.args.memory.now c.args.regs.now c.args.k c.level1.result _ c.level1.ensures.entry c.in-Outside.is in
    (w.0, ap (λ n. OutsideTable (record { 0 = n })) w.1)

pub returns-in-Empty : goal.returns-in-Empty
returns-in-Empty c =
    let w = level1_is c.args.memory.now c.args.regs.now c.args.k c.level1.result _ c.level1.ensures.entry c.in-Empty.is in
    (w.0, w.1 ∙ sym c.following.ensures)

pub returns-in-Page : goal.returns-in-Page
returns-in-Page c = level1_is c.args.memory.now c.args.regs.now c.args.k c.level1.result _ c.level1.ensures.entry c.in-Page.is
