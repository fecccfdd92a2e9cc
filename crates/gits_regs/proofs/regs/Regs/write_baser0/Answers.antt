use Rattle.gits_regs.proofs.Rules.{baser0_written}
use Rattle.gits_regs.proofs.regs.Regs.write_baser0.Goals as goal

pub invariant_of-self : goal.invariant_of-self
invariant_of-self c = baser0_written _ c.args.value _ c.self.invariant c.if-self.false c.kept_baser0-self-inside.ensures
