use Rattle.std.specs.String.{string_bytes}
use Rattle.its_explain.specs.LpiWrites.{same_text}
use Rattle.its_explain.proofs.Texts.{onto, pushed}
use Rattle.its_explain.proofs.lpi_writes.push_same.Goals as goal

pub returns : goal.returns
unfolding same_text
returns c =
    onto c.push_str.result _ (string_bytes c.push_lpi_value.new.out) (string_bytes c.args.out.now) _ _
    c.in_ok-push_lpi_value.ensures
    (pushed c.push_str.result _ (string_bytes c.push_lpi_value.new.out) _ c.push_str.ensures.bytes)
