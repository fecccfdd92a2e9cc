use Rattle.std.specs.String.{string_bytes}
use Rattle.its_explain.specs.Effects.{all_text}
use Rattle.its_explain.proofs.Texts.{joined, onto}
use Rattle.its_explain.proofs.commands.push_all.Goals as goal

pub returns : goal.returns
unfolding all_text
returns c =
    onto c.push_numbered-2.result _ (string_bytes c.push_numbered.new.out) (string_bytes c.args.out.now) _ _
    (joined (string_bytes c.push_numbered.new.out) (string_bytes c.push_go.new.out) (string_bytes c.args.out.now) _ _
    (joined (string_bytes c.push_go.new.out) (string_bytes c.push_count.new.out) (string_bytes c.args.out.now) _ _
    c.in_ok-push_count.ensures
    c.in_ok-push_go.ensures)
    c.in_ok-push_numbered.ensures)
    c.push_numbered-2.ensures
