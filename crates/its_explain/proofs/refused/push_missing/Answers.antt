use Rattle.std.specs.String.{string_bytes}
use Rattle.its_explain.specs.Refusals.{missing_text}
use Rattle.its_explain.proofs.Texts.{onto}
use Rattle.its_explain.proofs.refused.push_missing.Goals as goal

pub returns : goal.returns
unfolding missing_text
returns c =
    rw c.from.ensures at (onto c.push_since.result _ (string_bytes c.push_enclosed.new.out) (string_bytes c.args.out.now) _ _
    c.in_ok-push_enclosed.ensures
    c.push_since.ensures)
