use Rattle.std.specs.String.{string_bytes}
use Rattle.its_web.proofs.Opened.{is_left}
use Rattle.its_web.proofs.legs.run_leg.Goals as goal

pub returns-in_ok-goes-in-Whole : goal.returns-in_ok-goes-in-Whole
returns-in_ok-goes-in-Whole c =
    let opened = rw c.in-Whole.is at c.in_ok-text.ensures in
    is_left c.args.last c.args.machine.now c.open_leg.new.machine c.leave_leg.new.machine c.args.leg.now c.args.number (string_bytes c.in-Whole.text)
    (string_bytes c.args.report.now) (string_bytes c.open_leg.new.report) (string_bytes c.leave_leg.new.report) opened.0 opened.1 c.args.way
    c.in_ok-goes-in-Whole.goes c.in_ok-goes-in-Whole.ensures
