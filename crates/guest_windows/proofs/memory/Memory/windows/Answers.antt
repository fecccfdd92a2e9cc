use Rattle.std.proofs.Common.{ap, ◌∙◌}
use Rattle.std.proofs.lemmas.Result.{IfOk-weaker}
use Rattle.std.specs.Prelude.{map}
use Rattle.guest_windows.specs.Fields.{pairs, listed}
use Rattle.guest_windows.specs.Windows.{extent}
use Rattle.guest_windows.proofs.AllListed.{all_listed}
use Rattle.guest_windows.proofs.memory.Memory.windows.Goals as goal

pub returns : goal.returns
returns c =
    IfOk-weaker c.list_frames.result _ _
    (λ v is. ap pairs (is ∙ ap (map listed) c.deref.ensures.value) ∙ all_listed c.self.inside.frames.items ∙ ap (map extent) c.self.view_is)
    c.list_frames.ensures
