use Rattle.plain_machine.proofs.Memories.{marked_pair}
use Rattle.plain_machine.proofs.tracked_memory.TrackedMemory.mark.Goals as goal

pub invariant_of-self : goal.invariant_of-self
invariant_of-self c = marked_pair c.self.inside.memory c.args.addr.0 c.args.len c.self.inside.second c.mark.new.second c.mark.ensures c.self.invariant
