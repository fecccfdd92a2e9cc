use Rattle.std.specs.String.{string_bytes}
use Rattle.its_explain.specs.Refusals.{size_range_text}
use Rattle.its_explain.proofs.Texts.{onto, pushed}
use Rattle.its_explain.proofs.ranges.push_size_range.Goals as goal

pub returns : goal.returns
unfolding size_range_text
returns c =
    onto c.push_str.result _ (string_bytes c.push_bits.new.out) (string_bytes c.args.out.now) _ _
    c.in_ok-push_bits.ensures
    (pushed c.push_str.result _ (string_bytes c.push_bits.new.out) _ c.push_str.ensures.bytes)
