use Rattle.std.specs.String.{string_bytes}
use Rattle.its_explain.specs.Events.{moved_text}
use Rattle.its_explain.proofs.Texts.{joined, onto}
use Rattle.its_explain.proofs.event_commands.push_goes.Goals as goal

pub returns : goal.returns
unfolding moved_text
returns c =
    onto c.push_way.result _ (string_bytes c.push_small.new.out) (string_bytes c.args.out.now) _ _
    (joined (string_bytes c.push_small.new.out) (string_bytes c.push_event.new.out) (string_bytes c.args.out.now) _ _
    c.in_ok-push_event.ensures
    c.in_ok-push_small.ensures)
    c.push_way.ensures
