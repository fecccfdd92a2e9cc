use Rattle.std.specs.String.{string_bytes}
use Rattle.its_explain.specs.Unmapped.{stays_text}
use Rattle.its_explain.proofs.Texts.{onto}
use Rattle.its_explain.proofs.unmapped.push_stays.Goals as goal

pub returns : goal.returns
unfolding stays_text
returns c =
    onto c.push_small.result _ (string_bytes c.push_wide.new.out) (string_bytes c.args.out.now) _ _ c.in_ok-push_wide.ensures c.push_small.ensures
