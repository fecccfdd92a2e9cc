use Rattle.std.proofs.Common.{ap, sym, subst, ◌∙◌}
use Rattle.its_steps.specs.World.{View}
use Rattle.its_turns.specs.Told.{IsLone}
use Rattle.ports_together.proofs.migrations.refused.Goals as goal

pub is_one_left-requires : goal.is_one_left-requires
is_one_left-requires c =
    let before = c.in_ok-machine.ensures.at_rest in
    let stays = c.in-Err.ensures in
    record {
      of = stays.1;
      lone = subst IsLone (sym stays.2.same) before.lone;
      free = ap (λ (v : View). v.held) stays.2.same ∙ before.free;
    }
