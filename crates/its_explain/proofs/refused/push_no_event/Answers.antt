use Rattle.std.specs.String.{string_bytes}
use Rattle.its_explain.specs.Refusals.{no_event_text}
use Rattle.its_explain.proofs.Texts.{joined, onto, pushed}
use Rattle.its_explain.proofs.refused.push_no_event.Goals as goal

pub returns : goal.returns
unfolding no_event_text
returns c =
    rw c.from.ensures at (onto c.push_str.result _ (string_bytes c.push_since.new.out) (string_bytes c.args.out.now) _ _
    (joined (string_bytes c.push_since.new.out) (string_bytes c.push_enclosed.new.out) (string_bytes c.args.out.now) _ _
    (joined (string_bytes c.push_enclosed.new.out) (string_bytes c.push_wide.new.out) (string_bytes c.args.out.now) _ _
    c.in_ok-push_wide.ensures
    c.in_ok-push_enclosed.ensures)
    c.in_ok-push_since.ensures)
    (pushed c.push_str.result _ (string_bytes c.push_since.new.out) _ c.push_str.ensures.bytes))
