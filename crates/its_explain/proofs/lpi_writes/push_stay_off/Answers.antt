use Rattle.std.specs.String.{string_bytes}
use Rattle.its_explain.specs.LpiWrites.{stay_off_text}
use Rattle.its_explain.proofs.Texts.{joined, onto, pushed}
use Rattle.its_explain.proofs.lpi_writes.push_stay_off.Goals as goal

pub returns : goal.returns
unfolding stay_off_text
returns c =
    onto c.push_str.result _ (string_bytes c.push_in_hexadecimal-2.new.out) (string_bytes c.args.out.now) _ _
    (joined (string_bytes c.push_in_hexadecimal-2.new.out) (string_bytes c.push_in_hexadecimal.new.out) (string_bytes c.args.out.now) _ _
    c.in_ok-push_in_hexadecimal.ensures
    c.in_ok-push_in_hexadecimal-2.ensures)
    (pushed c.push_str.result _ (string_bytes c.push_in_hexadecimal-2.new.out) _ c.push_str.ensures.bytes)
