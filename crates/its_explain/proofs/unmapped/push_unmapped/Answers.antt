use Rattle.std.specs.String.{string_bytes}
use Rattle.its_explain.specs.Unmapped.{unmapped_text}
use Rattle.its_explain.proofs.Texts.{joined, onto}
use Rattle.its_explain.proofs.unmapped.push_unmapped.Goals as goal

pub returns : goal.returns
unfolding unmapped_text
returns c =
    onto c.push_lpi_of.result _ (string_bytes c.push_str.new.self) (string_bytes c.args.out.now) _ _
    (joined (string_bytes c.push_str.new.self) (string_bytes c.push_event.new.out) (string_bytes c.args.out.now) _ _
    c.in_ok-push_event.ensures
    c.in_ok-push_str.ensures.bytes)
    c.push_lpi_of.ensures
