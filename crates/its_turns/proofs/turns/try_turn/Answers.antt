use Rattle.std.proofs.Common.{arith, ◌+◌, ◌*◌, subst, sym, eqb}
use mathlib.Core.Option.{none}
use prog.Atomic.{either}
use Rattle.atomic_table.specs.Table.{step, Allows}
use Rattle.its_types.specs.declared.machine.Part.{Part}
use Rattle.its_steps.proofs.Indexes.{index_below}
use Rattle.its_turns.proofs.Trying.{allows_try}
use Rattle.its_turns.specs.Machines.{setup}
use Rattle.its_turns.specs.Rule.{Kept}
use Rattle.its_turns.specs.Told.{trying}
use Rattle.its_turns.proofs.turns.try_turn.Goals as goal

pub compare_exchange-requires : goal.compare_exchange-requires
compare_exchange-requires g c = let m = c.args.machine.now in let seat = c.args.seat.now in let z = m.table.shared.table_id.slots in let at = c.args.at in (
  c.requires.of,
  (let below = index_below (setup m) c.args.part c.requires.stands in omega (arith, m.sized.1, c.requires.at, below)),
  subst (λ (p : Part). Allows (Kept (setup m)) z seat.id seat.me (16 * (at + 1)) (λ n. either (eqb n 0) c.args.number n)
      (trying p (step z (16 * (at + 1)) 0 c.args.number none) seat.me)) (sym c.requires.chosen)
      (allows_try (setup m) z seat.id seat.me c.requires.live c.args.part c.requires.stands (16 * (at + 1)) c.args.number (omega (arith, c.requires.at))
      c.requires.number),
)
