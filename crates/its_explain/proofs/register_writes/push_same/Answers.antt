use Rattle.std.specs.String.{string_bytes}
use Rattle.its_explain.specs.RegisterWrites.{same_text}
use Rattle.its_explain.proofs.Texts.{onto, pushed}
use Rattle.its_explain.proofs.register_writes.push_same.Goals as goal

pub returns : goal.returns
unfolding same_text
returns c =
    onto c.push_str.result _ (string_bytes c.push_translator_value.new.out) (string_bytes c.args.out.now) _ _
    c.in_ok-push_translator_value.ensures
    (pushed c.push_str.result _ (string_bytes c.push_translator_value.new.out) _ c.push_str.ensures.bytes)
