use Rattle.std.specs.String.{string_bytes}
use Rattle.its_explain.specs.Refusals.{targets_text}
use Rattle.its_explain.proofs.Texts.{onto}
use Rattle.its_explain.proofs.ranges.push_targets.Goals as goal

pub returns : goal.returns
unfolding targets_text
returns c =
    rw c.saturating_sub.ensures at (onto c.push_last.result _ (string_bytes c.push_enclosed.new.out) (string_bytes c.args.out.now) _ _
    c.in_ok-push_enclosed.ensures
    c.push_last.ensures)
