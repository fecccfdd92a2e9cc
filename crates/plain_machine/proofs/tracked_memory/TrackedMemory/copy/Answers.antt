use Rattle.plain_machine.proofs.Memories.{same_pair}
use Rattle.plain_machine.proofs.tracked_memory.TrackedMemory.copy.Goals as goal

pub invariant_of-result : goal.invariant_of-result
invariant_of-result c = same_pair c.self.inside.memory c.in_ok-memory.memory c.self.inside.second c.in_ok-second.second c.in_ok-memory.ensures
    c.in_ok-second.ensures c.self.invariant
