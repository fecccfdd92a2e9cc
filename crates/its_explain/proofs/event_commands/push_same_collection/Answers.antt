use Rattle.std.specs.String.{string_bytes}
use Rattle.its_explain.specs.Events.{same_collection_text}
use Rattle.its_explain.proofs.Texts.{joined, onto, pushed}
use Rattle.its_explain.proofs.event_commands.push_same_collection.Goals as goal

pub returns : goal.returns
unfolding same_collection_text
returns c =
    onto c.push_str.result _ (string_bytes c.push_small.new.out) (string_bytes c.args.out.now) _ _
    (joined (string_bytes c.push_small.new.out) (string_bytes c.push_event.new.out) (string_bytes c.args.out.now) _ _
    c.in_ok-push_event.ensures
    c.in_ok-push_small.ensures)
    (pushed c.push_str.result _ (string_bytes c.push_small.new.out) _ c.push_str.ensures.bytes)
