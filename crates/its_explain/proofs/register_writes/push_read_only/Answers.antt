use Rattle.std.specs.String.{string_bytes}
use Rattle.its_explain.specs.RegisterWrites.{read_only_text}
use Rattle.its_explain.proofs.Texts.{onto, pushed}
use Rattle.its_explain.proofs.register_writes.push_read_only.Goals as goal

pub returns : goal.returns
unfolding read_only_text
returns c =
    rw c.translator_register.ensures at (onto c.push_str.result _ (string_bytes c.push_ignored.new.out) (string_bytes c.args.out.now) _ _
    c.in_ok-push_ignored.ensures
    (pushed c.push_str.result _ (string_bytes c.push_ignored.new.out) _ c.push_str.ensures.bytes))
