use Rattle.std.proofs.Common.{arith}
use Rattle.its_turns.specs.Machines.{setup}
use Rattle.its_turns.proofs.Stamps.{has_stamps, finds_first, finds_second}
use Rattle.its_turns.proofs.machine.Machine.stamp_of.Goals as goal

pub returns-then-its-eq0 : goal.returns-then-its-eq0
returns-then-its-eq0 c = let m = c.args.self.now in
    finds_first (setup m) c.args.word m.first_shift c.args.its (has_stamps m) (omega (arith, m.shifted, m.ordered.0)) (omega (arith, c.if-its-eq0.true))

pub returns-else-its-eq0 : goal.returns-else-its-eq0
returns-else-its-eq0 c = let m = c.args.self.now in
    finds_second (setup m) c.args.word c.args.its (has_stamps m) c.requires.its (λ e. absurd (omega (arith, c.if-its-eq0.false, e)))
