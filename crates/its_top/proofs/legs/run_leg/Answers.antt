use Rattle.std.specs.String.{string_bytes}
use Rattle.its_top.proofs.Runs.{is_left}
use Rattle.its_top.proofs.legs.run_leg.Goals as goal

pub returns-in_ok-goes-in-Whole-clause-ok : goal.returns-in_ok-goes-in-Whole-clause-ok
returns-in_ok-goes-in-Whole-clause-ok g c =
    let m = c.args.now.machine in let old = string_bytes c.args.report.now in
    let opened = rw c.in-Whole.is at c.in_ok-text.ensures.ok in
    is_left m c.open_leg.new.root c.args.way c.args.leg.now c.args.number (string_bytes c.in-Whole.text) old (string_bytes c.open_leg.new.report)
    (string_bytes c.leave_leg.new.report) c.in_ok-goes-in-Whole.goes opened.0 opened.1 c.in_ok-goes-in-Whole.ensures.ok
