use Rattle.std.specs.String.{string_bytes}
use Rattle.its_explain.specs.Acks.{nothing_text}
use Rattle.its_explain.proofs.Texts.{onto}
use Rattle.its_explain.proofs.acks.push_nothing.Goals as goal

pub returns : goal.returns
unfolding nothing_text
returns c =
    onto c.push_off.result _ (string_bytes c.push_small.new.out) (string_bytes c.args.out.now) _ _ c.in_ok-push_small.ensures c.push_off.ensures
