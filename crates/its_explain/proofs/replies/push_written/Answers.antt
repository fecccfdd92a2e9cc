use Rattle.std.specs.String.{string_bytes}
use Rattle.its_explain.specs.Replies.{written_text}
use Rattle.its_explain.proofs.Texts.{joined, onto, pushed}
use Rattle.its_explain.proofs.replies.push_written.Goals as goal

pub returns : goal.returns
unfolding written_text
returns c =
    onto c.push_str.result _ (string_bytes c.push_in_hexadecimal.new.out) (string_bytes c.args.out.now) _ _
    (joined (string_bytes c.push_in_hexadecimal.new.out) (string_bytes c.push_count.new.out) (string_bytes c.args.out.now) _ _
    c.in_ok-push_count.ensures
    c.in_ok-push_in_hexadecimal.ensures)
    (pushed c.push_str.result _ (string_bytes c.push_in_hexadecimal.new.out) _ c.push_str.ensures.bytes)
