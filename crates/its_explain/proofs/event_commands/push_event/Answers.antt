use Rattle.std.specs.String.{string_bytes}
use Rattle.its_explain.specs.Events.{event_text}
use Rattle.its_explain.proofs.Texts.{onto}
use Rattle.its_explain.proofs.event_commands.push_event.Goals as goal

pub returns : goal.returns
unfolding event_text
returns c =
    onto c.push_wide-2.result _ (string_bytes c.push_wide.new.out) (string_bytes c.args.out.now) _ _ c.in_ok-push_wide.ensures c.push_wide-2.ensures
