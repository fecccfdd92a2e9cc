use Rattle.std.specs.String.{string_bytes}
use Rattle.its_explain.specs.Events.{kept_text}
use Rattle.its_explain.proofs.Texts.{joined, onto, pushed}
use Rattle.its_explain.proofs.event_commands.push_kept.Goals as goal

pub returns : goal.returns
unfolding kept_text
returns c =
    onto c.push_str-2.result _ (string_bytes c.push_by.new.out) (string_bytes c.args.out.now) _ _
    (joined (string_bytes c.push_by.new.out) (string_bytes c.push_str.new.self) (string_bytes c.args.out.now) _ _
    (joined (string_bytes c.push_str.new.self) (string_bytes c.push_lpi_of.new.out) (string_bytes c.args.out.now) _ _
    c.in_ok-push_lpi_of.ensures
    c.in_ok-push_str.ensures.bytes)
    c.in_ok-push_by.ensures)
    (pushed c.push_str-2.result _ (string_bytes c.push_by.new.out) _ c.push_str-2.ensures.bytes)
