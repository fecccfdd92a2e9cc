use Rattle.std.specs.String.{string_bytes}
use Rattle.its_explain.specs.Events.{lpi_text}
use Rattle.its_explain.proofs.Texts.{onto}
use Rattle.its_explain.proofs.event_commands.push_lpi.Goals as goal

pub returns : goal.returns
unfolding lpi_text
returns c =
    onto c.push_event.result _ (string_bytes c.push_lpi_name.new.out) (string_bytes c.args.out.now) _ _ c.in_ok-push_lpi_name.ensures c.push_event.ensures
