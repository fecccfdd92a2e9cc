use Rattle.plain_machine.proofs.Memories.{caught_or_not}
use Rattle.plain_machine.proofs.tracked_memory.TrackedMemory.catch_up.Goals as goal

pub invariant_of-self : goal.invariant_of-self
invariant_of-self c = caught_or_not c.self.inside.memory c.self.inside.second c.catch_up.new.second c.catch_up.result c.catch_up.ensures.ok
    c.catch_up.ensures.err c.self.invariant
