use Rattle.std.specs.String.{string_bytes}
use Rattle.its_explain.specs.Rereads.{between_text}
use Rattle.its_explain.proofs.Texts.{joined, onto}
use Rattle.its_explain.proofs.rereads.push_between.Goals as goal

pub returns : goal.returns
unfolding between_text
returns c =
    onto c.push_before.result _ (string_bytes c.push_configuration.new.out) (string_bytes c.args.out.now) _ _
    (joined (string_bytes c.push_configuration.new.out) (string_bytes c.push_str.new.self) (string_bytes c.args.out.now) _ _
    (joined (string_bytes c.push_str.new.self) (string_bytes c.push_place.new.out) (string_bytes c.args.out.now) _ _
    c.in_ok-push_place.ensures
    c.in_ok-push_str.ensures.bytes)
    c.in_ok-push_configuration.ensures)
    c.push_before.ensures
