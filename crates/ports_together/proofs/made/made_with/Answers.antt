use Rattle.its_turns.specs.declared.machine.Machine.{Machine}
use Rattle.its_turns.specs.declared.machine.Pass.{Pass}
use Rattle.ports_together.specs.Ready.{IsShared}
use Rattle.ports_together.proofs.Begun.{if_shared, shared}
use Rattle.ports_together.proofs.made.made_with.Goals as goal

pub returns-clause-shared : goal.returns-clause-shared
returns-clause-shared c = if_shared c.in-Ok.desc (λ (x : Machine × Pass). IsShared x.0 x.1) c.share.result c.share.ensures (shared c.in-Ok.desc c.in-Ok.ensures)
