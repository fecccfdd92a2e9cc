use Rattle.std.proofs.Common.{subst}
use Rattle.its_turns.specs.Machines.{view}
use Rattle.its_shared.specs.Knowing.{Known}
use Rattle.its_shared.specs.Seeing.{ListsAll, Sees, written}
use Rattle.its_shared.proofs.port.Port.written.Goals as goal

pub returns-clause-seen : goal.returns-clause-seen
returns-clause-seen c =
    subst (λ (k : Known). Sees (Unit {0}) (λ u n. ListsAll (written u) c.args.list.now c.try_written.new.list n) k.view
    (view c.try_written.new.pass) c.try_written.result) c.self.view_is c.try_written.ensures.seen
