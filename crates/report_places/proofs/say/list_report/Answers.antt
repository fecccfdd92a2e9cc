use Rattle.report_places.proofs.Starts.{of_read, of_none_as}
use Rattle.report_places.proofs.say.list_report.Goals as goal

pub returns-in_ok-text-in-Ok : goal.returns-in_ok-text-in-Ok
returns-in_ok-text-in-Ok c = of_read c.args.script.now c.in-Ok.trace.legs _ c.args.leg c.args.place _ c.in-Ok.ensures c.in_ok-text-in-Ok.ensures

pub returns-in-Err-BadLine : goal.returns-in-Err-BadLine
returns-in-Err-BadLine c =
    of_none_as c.args.script.now _ c.in-Err-BadLine.field-0 _ c.args.leg c.args.place _ c.in-Err-BadLine.field-0-is c.in-Err-BadLine.ensures
