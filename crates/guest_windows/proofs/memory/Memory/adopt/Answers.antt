use Rattle.std.proofs.Common.{map, ap, ◌∙◌}
use Rattle.guest_windows.specs.Windows.{are_windows, extent}
use Rattle.guest_windows.specs.Fields.{windows}
use Rattle.guest_windows.specs.Drafts.{own_of}
use Rattle.guest_windows.proofs.Drafting.{extents_laid}
use Rattle.guest_windows.proofs.memory.Memory.adopt.Goals as goal

pub invariant_of-self : goal.invariant_of-self
invariant_of-self c =
    ap (λ ws. are_windows (map extent ws)) c.adopt_chunks.ensures
    ∙ ap are_windows (extents_laid (own_of c.draft.inside.chunks.items) 0 (windows c.self.inside.frames.items)) ∙ c.self.invariant
