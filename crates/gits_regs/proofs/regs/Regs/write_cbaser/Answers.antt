use Rattle.gits_regs.proofs.Rules.{cbaser_written}
use Rattle.gits_regs.proofs.regs.Regs.write_cbaser.Goals as goal

pub invariant_of-self : goal.invariant_of-self
invariant_of-self c = cbaser_written _ c.args.value _ c.self.invariant c.if-self.false c.kept_cbaser-base.ensures
