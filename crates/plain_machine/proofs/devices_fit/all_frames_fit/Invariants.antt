use Rattle.std.proofs.Common.{◌≡◌, ◌+◌, length}
use Rattle.guest_windows.specs.Fields.{pairs}
use Rattle.its_plain.specs.Machine.{all_frames_fit}
use Rattle.plain_machine.proofs.devices_fit.all_frames_fit.Given as goal

abbrev pub invariant-loop-rest : goal.invariant-loop-rest
invariant-loop-rest l = (all_frames_fit (pairs l.windows) l.its l.rest ≡ all_frames_fit (pairs l.windows) 0 l.translators)
    × (l.its + length l.rest ≡ length l.translators)

abbrev pub decreases-loop-rest : goal.decreases-loop-rest
decreases-loop-rest l = length l.rest
