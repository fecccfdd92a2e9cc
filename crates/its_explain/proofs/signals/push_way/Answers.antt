use Rattle.std.specs.String.{string_bytes}
use Rattle.its_explain.specs.Signals.{way_text}
use Rattle.its_explain.proofs.Texts.{joined, onto}
use Rattle.its_explain.proofs.signals.push_way.Goals as goal

pub returns : goal.returns
unfolding way_text
returns c =
    onto c.push_by-2.result _ (string_bytes c.push_small-2.new.out) (string_bytes c.args.out.now) _ _
    (joined (string_bytes c.push_small-2.new.out) (string_bytes c.push_by.new.out) (string_bytes c.args.out.now) _ _
    (joined (string_bytes c.push_by.new.out) (string_bytes c.push_small.new.out) (string_bytes c.args.out.now) _ _
    c.in_ok-push_small.ensures
    c.in_ok-push_by.ensures)
    c.in_ok-push_small-2.ensures)
    c.push_by-2.ensures
