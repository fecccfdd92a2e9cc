use Rattle.std.proofs.Common.{length}
use Rattle.table_save.specs.Pass.{FitsDevice, pack_device}
use Rattle.table_save.proofs.Rises.{Skipping}
use Rattle.table_save.proofs.devices.DeviceFront.skip_below.Given as goal

abbrev pub invariant-loop-self : goal.invariant-loop-self
invariant-loop-self l = Skipping FitsDevice pack_device 16383 l.id l.fn.self l.self

abbrev pub decreases-loop-self : goal.decreases-loop-self
decreases-loop-self l = length l.self
