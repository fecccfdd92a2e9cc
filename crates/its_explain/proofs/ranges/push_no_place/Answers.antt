use Rattle.std.specs.String.{string_bytes}
use Rattle.its_explain.specs.Refusals.{no_place_text}
use Rattle.its_explain.proofs.Texts.{onto}
use Rattle.its_explain.proofs.ranges.push_no_place.Goals as goal

pub returns : goal.returns
unfolding no_place_text
returns c =
    rw c.from.ensures at (onto c.push_level.result _ (string_bytes c.push_enclosed.new.out) (string_bytes c.args.out.now) _ _
    c.in_ok-push_enclosed.ensures
    c.push_level.ensures)
