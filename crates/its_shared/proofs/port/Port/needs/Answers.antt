use Rattle.std.proofs.Common.{subst}
use Rattle.its_turns.specs.Machines.{view}
use Rattle.its_shared.specs.Knowing.{Known}
use Rattle.its_shared.specs.Besides.{needed}
use Rattle.its_shared.specs.Seeing.{ListsAll, Sees}
use Rattle.its_shared.proofs.port.Port.needs.Goals as goal

pub returns-clause-seen : goal.returns-clause-seen
returns-clause-seen c =
    subst (λ (k : Known). Sees (Unit {0}) (λ u n. ListsAll (needed c.args.its u) c.args.list.now c.try_needs.new.list n) k.view
    (view c.try_needs.new.pass) c.try_needs.result) c.self.view_is c.try_needs.ensures.seen
