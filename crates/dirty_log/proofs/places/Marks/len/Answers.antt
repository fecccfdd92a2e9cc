use Rattle.std.proofs.Common.{length, sym, ap, ◌∙◌}
use Rattle.dirty_log.proofs.Flags.{length-flags}
use Rattle.dirty_log.proofs.places.Marks.len.Goals as goal

pub returns : goal.returns
returns c = sym (length-flags c.self.inside.bits c.self.inside.places) ∙ ap length c.self.view_is
