use Rattle.plain_machine.proofs.Memories.{fresh_pair}
use Rattle.plain_machine.proofs.tracked_memory.TrackedMemory.new.Goals as goal

pub invariant_of-result : goal.invariant_of-result
invariant_of-result c = fresh_pair c.args.memory c.args.tracks c.in_ok-second.second c.in_ok-second.ensures
