use Rattle.std.proofs.Common.{arith}
use Rattle.its_turns.specs.Machines.{setup}
use Rattle.its_turns.proofs.Passing.{allows_note}
use Rattle.its_turns.proofs.passes.note.Goals as goal

pub split_seat-requires : goal.split_seat-requires
split_seat-requires c = let m = c.args.machine.now in let p = c.args.pass.now in (
  c.requires.of.0,
  omega (arith, m.sized.1),
  allows_note
      (setup m) p.seat.id p.seat.me.0 p.live,
)
