use Rattle.std.specs.String.{string_bytes}
use Rattle.its_explain.specs.Refusals.{events_text}
use Rattle.its_explain.proofs.Texts.{joined, onto}
use Rattle.its_explain.proofs.refused.push_events.Goals as goal

pub returns : goal.returns
unfolding events_text
returns c =
    rw c.from.ensures at (rw c.greatest.ensures at (onto c.push_numbered.result _ (string_bytes c.push_by.new.out) (string_bytes c.args.out.now) _ _
    (joined (string_bytes c.push_by.new.out) (string_bytes c.push_enclosed.new.out) (string_bytes c.args.out.now) _ _
    (joined (string_bytes c.push_enclosed.new.out) (string_bytes c.push_wide.new.out) (string_bytes c.args.out.now) _ _
    c.in_ok-push_wide.ensures
    c.in_ok-push_enclosed.ensures)
    c.in_ok-push_by.ensures)
    c.push_numbered.ensures))
