use Rattle.std.specs.String.{string_bytes}
use Rattle.its_explain.specs.Events.{there_text}
use Rattle.its_explain.proofs.Texts.{joined, onto}
use Rattle.its_explain.proofs.event_commands.push_there.Goals as goal

pub returns : goal.returns
unfolding there_text
returns c =
    onto c.push_at_other.result _ (string_bytes c.push_small-2.new.out) (string_bytes c.args.out.now) _ _
    (joined (string_bytes c.push_small-2.new.out) (string_bytes c.push_small.new.out) (string_bytes c.args.out.now) _ _
    c.in_ok-push_small.ensures
    c.in_ok-push_small-2.ensures)
    c.push_at_other.ensures
