use Rattle.std.specs.String.{string_bytes}
use Rattle.its_explain.specs.Unmapped.{nowhere_text}
use Rattle.its_explain.proofs.Texts.{onto}
use Rattle.its_explain.proofs.unmapped.push_nowhere.Goals as goal

pub returns : goal.returns
unfolding nowhere_text
returns c =
    onto c.push_elsewhere.result _ (string_bytes c.push_no_place.new.out) (string_bytes c.args.out.now) _ _
    c.in_ok-push_no_place.ensures
    c.push_elsewhere.ensures
