use Rattle.std.specs.String.{string_bytes}
use Rattle.its_explain.specs.Acks.{not_enabled_text}
use Rattle.its_explain.proofs.Texts.{joined, onto, pushed}
use Rattle.its_explain.proofs.acks.push_not_enabled.Goals as goal

pub returns : goal.returns
unfolding not_enabled_text
returns c =
    onto c.push_str-2.result _ (string_bytes c.push_str.new.self) (string_bytes c.args.out.now) _ _
    (joined (string_bytes c.push_str.new.self) (string_bytes c.push_small.new.out) (string_bytes c.args.out.now) _ _
    (joined (string_bytes c.push_small.new.out) (string_bytes c.push_wide.new.out) (string_bytes c.args.out.now) _ _
    c.in_ok-push_wide.ensures
    c.in_ok-push_small.ensures)
    c.in_ok-push_str.ensures.bytes)
    (pushed c.push_str-2.result _ (string_bytes c.push_str.new.self) _ c.push_str-2.ensures.bytes)
