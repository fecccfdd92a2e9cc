use Rattle.std.proofs.Common.{subst}
use Rattle.its_plain.specs.Plain.{maps_of}
use Rattle.its_numbers.specs.Mapped.{mappings_from}
use Rattle.its_turns.specs.Machines.{view}
use Rattle.its_shared.specs.Knowing.{Known}
use Rattle.its_shared.specs.Seeing.{ListsFirst, Sees}
use Rattle.its_shared.proofs.port.Port.mappings.Goals as goal

pub returns-clause-seen : goal.returns-clause-seen
returns-clause-seen c =
    subst (λ (k : Known). Sees ⊥ (λ u n. ListsFirst (mappings_from (maps_of u c.args.its) c.args.device c.args.from) c.args.list.now c.try_mappings.new.list n) k.view
    (view c.try_mappings.new.pass) c.try_mappings.result) c.self.view_is c.try_mappings.ensures.seen
