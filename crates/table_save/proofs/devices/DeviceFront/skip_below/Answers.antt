use Rattle.std.proofs.Common.{sym, ◌∙◌}
use Rattle.table_save.specs.Pass.{FitsDevice, pack_device}
use Rattle.table_save.proofs.Rises.{skipped_one}
use Rattle.table_save.proofs.devices.DeviceFront.skip_below.Goals as goal

pub loop-self-preserved : goal.loop-self-preserved
loop-self-preserved c =
    rw c.pass_first.ensures (skipped_one FitsDevice pack_device 16383 c.args.id c.args.self.now c.loop-self.self
    (sym c.begins_below.ensures ∙ c.loop-self-test.true) c.loop-self.invariant)
