use Rattle.std.proofs.Common.{◌≡◌, subst}
use Rattle.its_numbers.specs.Stored.{stored}
use Rattle.its_turns.specs.Machines.{view}
use Rattle.its_shared.specs.Knowing.{Known}
use Rattle.its_shared.specs.Seeing.{Sees}
use Rattle.its_shared.proofs.port.Port.stored_lpi_registers.Goals as goal

pub returns-clause-seen : goal.returns-clause-seen
returns-clause-seen c =
    subst (λ (k : Known). Sees ⊥ (λ u r. r ≡ stored u c.args.vcpu) k.view (view c.try_stored.new.pass) c.try_stored.result) c.self.view_is
    c.try_stored.ensures.seen
