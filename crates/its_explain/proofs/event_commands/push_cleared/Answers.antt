use Rattle.std.specs.String.{string_bytes}
use Rattle.its_explain.specs.Events.{cleared_text}
use Rattle.its_explain.proofs.Texts.{joined, onto}
use Rattle.its_explain.proofs.event_commands.push_cleared.Goals as goal

pub returns : goal.returns
unfolding cleared_text
returns c =
    onto c.push_place.result _ (string_bytes c.push_ended.new.out) (string_bytes c.args.out.now) _ _
    (joined (string_bytes c.push_ended.new.out) (string_bytes c.push_lpi.new.out) (string_bytes c.args.out.now) _ _
    c.in_ok-push_lpi.ensures
    c.in_ok-push_ended.ensures)
    c.push_place.ensures
