use Rattle.std.specs.String.{string_bytes}
use Rattle.its_explain.specs.Events.{around}
use Rattle.its_explain.proofs.Texts.{onto, pushed}
use Rattle.its_explain.proofs.event_commands.push_around.Goals as goal

pub returns : goal.returns
unfolding around
returns c =
    onto c.push_str.result _ (string_bytes c.push_wide.new.out) (string_bytes c.args.out.now) _ _
    c.in_ok-push_wide.ensures
    (pushed c.push_str.result _ (string_bytes c.push_wide.new.out) _ c.push_str.ensures.bytes)
