use Rattle.std.proofs.Common.{map, ap, ◌∙◌}
use Rattle.guest_windows.specs.Windows.{are_windows, extent}
use Rattle.guest_windows.specs.Fields.{windows}
use Rattle.guest_windows.proofs.Laws.{extents_of_zeros}
use Rattle.guest_windows.proofs.whole.WholeMemory.clear.Goals as goal

pub invariant_of-self : goal.invariant_of-self
invariant_of-self c =
    let fs = c.self.inside.frames.items in (
      ap (λ ws. are_windows (map extent ws)) c.clear_frames.ensures.zero ∙ ap are_windows (extents_of_zeros (map extent (windows fs))) ∙ c.self.invariant.0,
      c.clear_frames.ensures.whole,
    )
