use Rattle.guest_windows.specs.declared.errors.WriteError.TheVariants.{Outside, NoMemory}
use Rattle.plain_machine.proofs.Memories.{written_pair}
use Rattle.plain_machine.proofs.tracked_memory.TrackedMemory.write.Goals as goal

pub invariant_of-self : goal.invariant_of-self
invariant_of-self c = written_pair c.self.inside.memory c.write.new.self c.args.addr.0 c.args.bytes.now c.write.result (Outside c.args.addr) NoMemory
    c.self.inside.second c.write.ensures.written c.self.invariant
