use Rattle.std.proofs.Common.{◌≡◌, length}
use Rattle.std.specs.List.{list_any}
use Rattle.its_plain.specs.Doorbells.{frames_size}
use Rattle.its_plain.specs.Machine.{share, frames_of}
use Rattle.plain_machine.proofs.devices_fit.shares_frames.Given as goal

abbrev pub invariant-loop-rest : goal.invariant-loop-rest
invariant-loop-rest l =
    list_any (share (l.base.0, frames_size)) (frames_of l.rest) ≡ list_any (share (l.base.0, frames_size)) (frames_of l.fn.translators)

abbrev pub decreases-loop-rest : goal.decreases-loop-rest
decreases-loop-rest l = length l.rest
