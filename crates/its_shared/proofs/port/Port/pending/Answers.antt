use Rattle.std.proofs.Common.{subst}
use Rattle.its_plain.specs.Plain.{pending_of}
use Rattle.its_turns.specs.Machines.{view}
use Rattle.its_shared.specs.Knowing.{Known}
use Rattle.its_shared.specs.Seeing.{ListsNumbers, Sees}
use Rattle.its_shared.proofs.port.Port.pending.Goals as goal

pub returns-clause-seen : goal.returns-clause-seen
returns-clause-seen c =
    subst (λ (k : Known). Sees (Unit {0}) (λ u n. ListsNumbers (pending_of u c.args.vcpu) c.args.list.now c.try_pending.new.list n) k.view
    (view c.try_pending.new.pass) c.try_pending.result) c.self.view_is c.try_pending.ensures.seen
