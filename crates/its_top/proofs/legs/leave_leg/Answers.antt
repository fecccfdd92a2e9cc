use Rattle.std.proofs.Common.{◌++◌, ap, ◌∙◌}
use Rattle.std.specs.String.{string_bytes}
use Rattle.its_answers.specs.Moves.{move_line}
use Rattle.its_top.proofs.legs.leave_leg.Goals as goal

pub returns-in_ok-add_moved-in-On-clause-ok : goal.returns-in_ok-add_moved-in-On-clause-ok
returns-in_ok-add_moved-in-On-clause-ok c =
    let left = rw c.in-On.is at c.in_ok-next.ensures in
    (left.0, c.in_ok-add_moved-in-On.ensures.ok ∙ ap (λ pages. string_bytes c.args.report.now ++ (string_bytes c.args.text ++ move_line pages)) left.1)

pub returns-in_ok-ending-in-Refused-clause-ok : goal.returns-in_ok-ending-in-Refused-clause-ok
returns-in_ok-ending-in-Refused-clause-ok c =
    let refused = rw c.in-Refused.is at c.in_ok-next.ensures in
    (c.in-Refused.fault, refused, c.in_ok-ending-in-Refused.ensures.ok)
