use Rattle.std.specs.String.{string_bytes}
use Rattle.its_explain.specs.Rereads.{reread_text}
use Rattle.its_explain.proofs.Texts.{joined, onto}
use Rattle.its_explain.proofs.rereads.push_read_again.Goals as goal

pub returns : goal.returns
unfolding reread_text
returns c =
    onto c.push_between_if.result _ (string_bytes c.push_str-2.new.self) (string_bytes c.args.out.now) _ _
    (joined (string_bytes c.push_str-2.new.self) (string_bytes c.push_lpi.new.out) (string_bytes c.args.out.now) _ _
    (joined (string_bytes c.push_lpi.new.out) (string_bytes c.push_str.new.self) (string_bytes c.args.out.now) _ _
    c.in_ok-push_str.ensures.bytes
    c.in_ok-push_lpi.ensures)
    c.in_ok-push_str-2.ensures.bytes)
    c.push_between_if.ensures
