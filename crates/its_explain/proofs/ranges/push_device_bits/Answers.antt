use Rattle.std.specs.String.{string_bytes}
use Rattle.its_explain.specs.Refusals.{device_bits_text}
use Rattle.its_explain.proofs.Texts.{joined, onto, pushed}
use Rattle.its_explain.proofs.ranges.push_device_bits.Goals as goal

pub returns : goal.returns
unfolding device_bits_text
returns c =
    onto c.push_str.result _ (string_bytes c.push_byte.new.out) (string_bytes c.args.out.now) _ _
    (joined (string_bytes c.push_byte.new.out) (string_bytes c.push_wide.new.out) (string_bytes c.args.out.now) _ _
    c.in_ok-push_wide.ensures
    c.in_ok-push_byte.ensures)
    (pushed c.push_str.result _ (string_bytes c.push_byte.new.out) _ c.push_str.ensures.bytes)
