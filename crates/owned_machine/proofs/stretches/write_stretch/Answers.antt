use Rattle.owned_machine.proofs.LongWrites.{stretch_goes}
use Rattle.owned_machine.proofs.stretches.write_stretch.Goals as goal

pub returns-clause-done : goal.returns-clause-done
returns-clause-done c =
    stretch_goes c.args.parts.now c.args.address c.args.bytes.now c.put_all.new.memory c.mark.new.track c.requires.whole c.in_ok-put_all.ensures.done
    c.mark.ensures
