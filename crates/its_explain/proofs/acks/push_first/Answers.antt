use Rattle.std.specs.String.{string_bytes}
use Rattle.its_explain.specs.Acks.{first_text}
use Rattle.its_explain.proofs.Texts.{joined, onto}
use Rattle.its_explain.proofs.acks.push_first.Goals as goal

pub returns : goal.returns
unfolding first_text
returns c =
    onto c.push_mask.result _ (string_bytes c.push_hex_byte.new.out) (string_bytes c.args.out.now) _ _
    (joined (string_bytes c.push_hex_byte.new.out) (string_bytes c.push_wide.new.out) (string_bytes c.args.out.now) _ _
    (joined (string_bytes c.push_wide.new.out) (string_bytes c.push_small.new.out) (string_bytes c.args.out.now) _ _
    c.in_ok-push_small.ensures
    c.in_ok-push_wide.ensures)
    c.in_ok-push_hex_byte.ensures)
    c.push_mask.ensures
