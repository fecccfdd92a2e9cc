use Rattle.plain_soundness.proofs.First.{start_sound}
use Rattle.machine_tests.proofs.passes.start.Goals as goal

pub returns : goal.returns
returns c = start_sound c.in_ok-desc.desc c.in_ok-new.field-0 c.in_ok-desc.ensures c.in_ok-new.ensures
