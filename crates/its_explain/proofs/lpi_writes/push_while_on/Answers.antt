use Rattle.std.specs.String.{string_bytes}
use Rattle.its_explain.specs.LpiWrites.{while_on_text}
use Rattle.its_explain.proofs.Texts.{onto}
use Rattle.its_explain.proofs.lpi_writes.push_while_on.Goals as goal

pub returns : goal.returns
unfolding while_on_text
returns c =
    rw c.lpi_register.ensures at (rw c.part.ensures at (
    onto c.push_in_hexadecimal.result _ (string_bytes c.push_ignored.new.out) (string_bytes c.args.out.now) _ _
    c.in_ok-push_ignored.ensures
    c.push_in_hexadecimal.ensures))
