use Rattle.its_draw.proofs.Starts.{of_read, of_none_as}
use Rattle.its_draw.proofs.say.draw_report.Goals as goal

pub returns-in_ok-text-in-Ok : goal.returns-in_ok-text-in-Ok
returns-in_ok-text-in-Ok c = of_read c.args.script.now c.in-Ok.trace.legs _ _ c.in-Ok.ensures c.in_ok-text-in-Ok.ensures

pub returns-in-Err-BadLine : goal.returns-in-Err-BadLine
returns-in-Err-BadLine c = of_none_as c.args.script.now _ c.in-Err-BadLine.field-0 _ _ c.in-Err-BadLine.field-0-is c.in-Err-BadLine.ensures
