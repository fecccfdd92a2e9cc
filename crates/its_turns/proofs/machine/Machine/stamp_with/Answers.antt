use Rattle.std.proofs.Common.{arith}
use Rattle.its_turns.specs.Machines.{setup}
use Rattle.its_turns.proofs.Stamps.{has_stamps, low_of_two, second_is, with_alone, with_first, with_second}
use Rattle.its_turns.proofs.machine.Machine.stamp_with.Goals as goal

pub returns-then-self-eq1 : goal.returns-then-self-eq1
returns-then-self-eq1 c = let m = c.args.self.now in
    with_alone (setup m) c.args.word.stamp c.args.its c.args.stamp (omega (arith, m.ordered.0, c.if-self-eq1.true))

pub returns-then-its-eq0 : goal.returns-then-its-eq0
returns-then-its-eq0 c = let m = c.args.self.now in
    let z = low_of_two (setup m) c.args.stamp (has_stamps m) (λ e. absurd (omega (arith, c.if-self-eq1.false, m.ordered.0, e))) c.requires.low in
    with_first (setup m) c.args.word.stamp c.args.its c.args.stamp z.0 (omega (arith, c.if-its-eq0.true))

pub returns-else-its-eq0 : goal.returns-else-its-eq0
returns-else-its-eq0 c = let m = c.args.self.now in
    let z = second_is (setup m) c.args.its (has_stamps m) c.requires.its (λ e. absurd (omega (arith, c.if-its-eq0.false, e))) in
    with_second (setup m) c.args.word.stamp c.args.its c.args.stamp z.0 z.1
