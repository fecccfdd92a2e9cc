use Rattle.std.specs.String.{string_bytes}
use Rattle.its_explain.specs.Numbers.{enclosed}
use Rattle.its_explain.proofs.Texts.{onto, pushed}
use Rattle.its_explain.proofs.numbers.push_enclosed.Goals as goal

pub returns : goal.returns
unfolding enclosed
returns c =
    onto c.push_str.result _ (string_bytes c.push_numbered.new.out) (string_bytes c.args.out.now) _ _
    c.in_ok-push_numbered.ensures
    (pushed c.push_str.result _ (string_bytes c.push_numbered.new.out) _ c.push_str.ensures.bytes)
