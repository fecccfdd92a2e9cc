use Rattle.std.proofs.Common.{refl}
use Rattle.its_player.specs.Shared.{setup_of}
use Rattle.its_steps.specs.World.{missed}
use Rattle.its_player.proofs.Seats.{put_core}
use Rattle.its_player.proofs.shared.Shared.miss.Goals as goal

pub returns-clause-leaves : goal.returns-clause-leaves
returns-clause-leaves c = λ v at p.
    let w = c.args.self.now in
    put_core w c.args.at c.index_mut-view.result.now c.miss.new.self v (λ u. missed u c.args.part c.args.found) c.requires c.index_mut-view.ensures.value at p
    (c.in_ok-miss.ensures (setup_of w)) (λ u. refl)
