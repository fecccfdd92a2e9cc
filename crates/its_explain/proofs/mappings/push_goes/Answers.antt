use Rattle.std.specs.String.{string_bytes}
use Rattle.its_explain.specs.Mappings.{goes_text}
use Rattle.its_explain.proofs.Texts.{onto}
use Rattle.its_explain.proofs.mappings.push_goes.Goals as goal

pub returns : goal.returns
unfolding goes_text
returns c =
    onto c.push_small-2.result _ (string_bytes c.push_small.new.out) (string_bytes c.args.out.now) _ _ c.in_ok-push_small.ensures c.push_small-2.ensures
