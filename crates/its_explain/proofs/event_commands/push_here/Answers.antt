use Rattle.std.specs.String.{string_bytes}
use Rattle.its_explain.specs.Events.{here_text}
use Rattle.its_explain.proofs.Texts.{joined, onto}
use Rattle.its_explain.proofs.event_commands.push_here.Goals as goal

pub returns : goal.returns
unfolding here_text
returns c =
    onto c.push_at_same.result _ (string_bytes c.push_str.new.self) (string_bytes c.args.out.now) _ _
    (joined (string_bytes c.push_str.new.self) (string_bytes c.push_small.new.out) (string_bytes c.args.out.now) _ _
    c.in_ok-push_small.ensures
    c.in_ok-push_str.ensures.bytes)
    c.push_at_same.ensures
