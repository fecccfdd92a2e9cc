use Rattle.std.specs.String.{string_bytes}
use Rattle.its_explain.specs.RegisterWrites.{no_bases_text}
use Rattle.its_explain.proofs.Texts.{joined, onto, pushed}
use Rattle.its_explain.proofs.register_writes.push_no_bases.Goals as goal

pub returns : goal.returns
unfolding no_bases_text
returns c =
    onto c.push_str-2.result _ (string_bytes c.push_not_valid_of.new.out) (string_bytes c.args.out.now) _ _
    (joined (string_bytes c.push_not_valid_of.new.out) (string_bytes c.push_str.new.self) (string_bytes c.args.out.now) _ _
    c.in_ok-push_str.ensures.bytes
    c.in_ok-push_not_valid_of.ensures)
    (pushed c.push_str-2.result _ (string_bytes c.push_not_valid_of.new.out) _ c.push_str-2.ensures.bytes)
