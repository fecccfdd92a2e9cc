use Rattle.std.proofs.Common.{◌/◌, map, ap, ◌∙◌}
use Rattle.std.specs.Prelude.{◌==◌}
use Rattle.guest_windows.specs.Windows.{are_windows, extent}
use Rattle.guest_windows.specs.Fields.{windows}
use Rattle.guest_windows.proofs.Mixed.{extents_mixed}
use Rattle.guest_windows.proofs.whole.WholeMemory.copy_page.Goals as goal

pub invariant_of-self : goal.invariant_of-self
invariant_of-self c = (
  ap (λ ws. are_windows (map extent ws)) c.copy_frames.ensures.copied ∙ ap are_windows (extents_mixed (λ a. a / 4096 == c.args.page)
      (windows c.deref.result.now) (windows c.self.inside.frames.items)) ∙ c.self.invariant.0,
  c.copy_frames.ensures.whole,
)
