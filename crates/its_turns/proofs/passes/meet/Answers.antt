use Rattle.std.proofs.Common.{arith}
use Rattle.its_turns.specs.Machines.{setup}
use Rattle.its_turns.proofs.Passing.{allows_meet}
use Rattle.its_turns.proofs.passes.meet.Goals as goal

pub join_seat-requires : goal.join_seat-requires
join_seat-requires c = let m = c.args.machine.now in let p = c.args.pass.now in let n = c.args.note in
    (c.requires.of.0.0, c.requires.of.1, n.empty, omega (arith, m.sized.1), allows_meet (setup m) p.seat.id p.seat.me.0 p.live n.seat.id n.seat.me.0 n.note)
