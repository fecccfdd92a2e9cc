use Rattle.std.specs.String.{string_bytes}
use Rattle.its_explain.specs.Events.{mapped_text}
use Rattle.its_explain.proofs.Texts.{onto}
use Rattle.its_explain.proofs.event_commands.push_mapped_as.Goals as goal

pub returns : goal.returns
unfolding mapped_text
returns c =
    onto c.push_mapping.result _ (string_bytes c.push_event.new.out) (string_bytes c.args.out.now) _ _ c.in_ok-push_event.ensures c.push_mapping.ensures
