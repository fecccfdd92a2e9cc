use Rattle.its_fit.proofs.Answering.{has_tables}
use Rattle.its_fit.proofs.recording.Recording.machine_after.Goals as goal

pub remade-requires : goal.remade-requires
remade-requires c =
    let self = c.args.self.now in
    record { shape = self.shape; tables = has_tables self.desc.now.shape.vcpus self.desc.now.tables self.tables; some_translator = self.some; most_translators = self.most }

pub returns-in-Ok : goal.returns-in-Ok
returns-in-Ok c = record { first = c.in_ok-machine.machine; starts = c.in_ok-machine.ensures; state = c.in-Ok.ensures }
