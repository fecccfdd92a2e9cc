use Rattle.std.proofs.Common.{◌++◌, ap, ◌∙◌}
use Rattle.std.specs.String.{string_bytes}
use Rattle.its_answers.specs.Moves.{move_line}
use Rattle.its_web.proofs.legs.leave_leg.Goals as goal

pub returns-in_ok-add_moved-in-On : goal.returns-in_ok-add_moved-in-On
returns-in_ok-add_moved-in-On c =
    let left = rw c.in-On.is at c.in_ok-pages.ensures in
    (left.0, left.1, c.in_ok-add_moved-in-On.ensures.ok ∙ ap (λ pages. string_bytes c.args.report.now ++ (string_bytes c.args.text ++ move_line pages)) left.2)

pub returns-in_ok-ending-in-Refused : goal.returns-in_ok-ending-in-Refused
returns-in_ok-ending-in-Refused c =
    let refused = rw c.in-Refused.is at c.in_ok-pages.ensures in
    (c.in-Refused.fault, refused, c.in_ok-ending-in-Refused.ensures.ok)
