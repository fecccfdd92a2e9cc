use Rattle.std.specs.String.{string_bytes}
use Rattle.its_explain.specs.Events.{new_text}
use Rattle.its_explain.proofs.Texts.{onto}
use Rattle.its_explain.proofs.event_commands.push_new.Goals as goal

pub returns : goal.returns
unfolding new_text
returns c =
    onto c.push_unless_mapped.result _ (string_bytes c.push_lpi_of.new.out) (string_bytes c.args.out.now) _ _
    c.in_ok-push_lpi_of.ensures
    c.push_unless_mapped.ensures
