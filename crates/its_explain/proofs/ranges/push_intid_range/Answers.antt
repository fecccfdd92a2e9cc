use Rattle.std.specs.String.{string_bytes}
use Rattle.its_explain.specs.Refusals.{intid_range_text}
use Rattle.its_explain.proofs.Texts.{onto}
use Rattle.its_explain.proofs.ranges.push_intid_range.Goals as goal

pub returns : goal.returns
unfolding intid_range_text
returns c =
    rw c.greatest.ensures at (onto c.push_enclosed.result _ (string_bytes c.push_intid.new.out) (string_bytes c.args.out.now) _ _
    c.in_ok-push_intid.ensures
    c.push_enclosed.ensures)
