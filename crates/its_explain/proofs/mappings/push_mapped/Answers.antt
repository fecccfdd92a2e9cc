use Rattle.std.specs.String.{string_bytes}
use Rattle.its_explain.specs.Mappings.{mapped_text}
use Rattle.its_explain.proofs.Texts.{joined, onto}
use Rattle.its_explain.proofs.mappings.push_mapped.Goals as goal

pub returns : goal.returns
unfolding mapped_text
returns c =
    onto c.push_again_if.result _ (string_bytes c.push_in_hexadecimal.new.out) (string_bytes c.args.out.now) _ _
    (joined (string_bytes c.push_in_hexadecimal.new.out) (string_bytes c.push_byte.new.out) (string_bytes c.args.out.now) _ _
    (joined (string_bytes c.push_byte.new.out) (string_bytes c.push_wide.new.out) (string_bytes c.args.out.now) _ _
    c.in_ok-push_wide.ensures
    c.in_ok-push_byte.ensures)
    c.in_ok-push_in_hexadecimal.ensures)
    c.push_again_if.ensures
