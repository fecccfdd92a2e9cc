use Rattle.std.proofs.Common.{arith}
use Rattle.its_turns.proofs.Joined.{all_joined}
use Rattle.its_turns.specs.Machines.{view}
use Rattle.its_turns.proofs.machine.Pass.out.Goals as goal

pub returns-clause-lone : goal.returns-clause-lone
returns-clause-lone c none = let p = c.args.self.now in (
  c.requires,
  (λ n some lt. all_joined (view p).root.made (view p).root.ended p.joined
      (omega (arith, none, p.counted (omega (arith, c.requires, p.numbered.0)), p.numbered.1)) n some lt),
)
