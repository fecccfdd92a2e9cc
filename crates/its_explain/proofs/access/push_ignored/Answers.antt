use Rattle.std.specs.String.{string_bytes}
use Rattle.its_explain.specs.Accesses.{ignored_text}
use Rattle.its_explain.proofs.Texts.{onto, pushed}
use Rattle.its_explain.proofs.access.push_ignored.Goals as goal

pub returns : goal.returns
unfolding ignored_text
returns c =
    rw c.name_or.ensures at (onto c.push_str-2.result _ (string_bytes c.push_str.new.self) (string_bytes c.args.out.now) _ _
    c.in_ok-push_str.ensures.bytes
    (pushed c.push_str-2.result _ (string_bytes c.push_str.new.self) _ c.push_str-2.ensures.bytes))
