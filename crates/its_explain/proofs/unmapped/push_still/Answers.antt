use Rattle.std.specs.String.{string_bytes}
use Rattle.its_explain.specs.Unmapped.{still_text}
use Rattle.its_explain.proofs.Texts.{onto}
use Rattle.its_explain.proofs.unmapped.push_still.Goals as goal

pub returns : goal.returns
unfolding still_text
returns c =
    onto c.push_place.result _ (string_bytes c.push_around.new.out) (string_bytes c.args.out.now) _ _ c.in_ok-push_around.ensures c.push_place.ensures
