use Rattle.event_script.specs.Text.{parts}
use Rattle.its_answers.proofs.Agreed.{starts_well, no_fault_as}
use Rattle.its_draw.proofs.Starts.{of_input}
use Rattle.its_draw.proofs.say.draw.Goals as goal

pub draw_report-requires : goal.draw_report-requires
draw_report-requires c = starts_well c.args.input.now c.in-Ok.read.script (parts c.in-Ok.read.report.now) c.requires c.in-Ok.ensures

pub unreachable-requires : goal.unreachable-requires
unreachable-requires c = no_fault_as c.args.input.now c.in-Err-Fault.field-0 _ c.in-Err-Fault.field-0-is c.requires c.in-Err-Fault.ensures

pub returns-in_ok-text-in-Ok : goal.returns-in_ok-text-in-Ok
returns-in_ok-text-in-Ok c =
    of_input c.args.input.now c.in-Ok.read.script c.in-Ok.read.report.now _ c.requires c.in-Ok.ensures c.in_ok-text-in-Ok.ensures
