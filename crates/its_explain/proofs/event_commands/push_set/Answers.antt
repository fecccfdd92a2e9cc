use Rattle.std.specs.String.{string_bytes}
use Rattle.its_explain.specs.Events.{set_text}
use Rattle.its_explain.proofs.Texts.{joined, onto}
use Rattle.its_explain.proofs.event_commands.push_set.Goals as goal

pub returns : goal.returns
unfolding set_text
returns c =
    onto c.push_standing.result _ (string_bytes c.push_place.new.out) (string_bytes c.args.out.now) _ _
    (joined (string_bytes c.push_place.new.out) (string_bytes c.push_str.new.self) (string_bytes c.args.out.now) _ _
    (joined (string_bytes c.push_str.new.self) (string_bytes c.push_lpi.new.out) (string_bytes c.args.out.now) _ _
    c.in_ok-push_lpi.ensures
    c.in_ok-push_str.ensures.bytes)
    c.in_ok-push_place.ensures)
    c.push_standing.ensures
