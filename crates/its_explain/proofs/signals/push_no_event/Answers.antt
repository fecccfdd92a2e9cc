use Rattle.std.specs.String.{string_bytes}
use Rattle.its_explain.specs.Signals.{no_event_text}
use Rattle.its_explain.proofs.Texts.{joined, onto, pushed}
use Rattle.its_explain.proofs.signals.push_no_event.Goals as goal

pub returns : goal.returns
unfolding no_event_text
returns c =
    onto c.push_str-2.result _ (string_bytes c.push_since.new.out) (string_bytes c.args.out.now) _ _
    (joined (string_bytes c.push_since.new.out) (string_bytes c.push_str.new.self) (string_bytes c.args.out.now) _ _
    (joined (string_bytes c.push_str.new.self) (string_bytes c.push_wide-2.new.out) (string_bytes c.args.out.now) _ _
    (joined (string_bytes c.push_wide-2.new.out) (string_bytes c.push_wide.new.out) (string_bytes c.args.out.now) _ _
    c.in_ok-push_wide.ensures
    c.in_ok-push_wide-2.ensures)
    c.in_ok-push_str.ensures.bytes)
    c.in_ok-push_since.ensures)
    (pushed c.push_str-2.result _ (string_bytes c.push_since.new.out) _ c.push_str-2.ensures.bytes)
