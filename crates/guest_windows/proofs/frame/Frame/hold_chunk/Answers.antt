use Rattle.std.proofs.Common.{◌∙◌}
use Rattle.guest_windows.proofs.frame.Frame.hold_chunk.Goals as goal

pub returns-clause-same : goal.returns-clause-same
returns-clause-same c p = c.hold_in_group.ensures.same p ∙ c.hold_group.ensures.same p
