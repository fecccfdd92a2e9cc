use Rattle.std.specs.String.{string_bytes}
use Rattle.its_explain.specs.LpiWrites.{off_text}
use Rattle.its_explain.proofs.Texts.{onto}
use Rattle.its_explain.proofs.lpi_writes.push_off.Goals as goal

pub returns : goal.returns
unfolding off_text
returns c =
    onto c.push_without_if.result _ (string_bytes c.push_str.new.self) (string_bytes c.args.out.now) _ _
    c.in_ok-push_str.ensures.bytes
    c.push_without_if.ensures
