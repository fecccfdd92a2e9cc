use Rattle.std.proofs.Common.{rules}
use Rattle.its_plain.specs.Sound.{IsSound}
use Rattle.its_answers.proofs.Reports.{has_shape, trace_said, bad_said}
use Rattle.its_answers.proofs.check.check_report.Goals as goal

pub compare-requires : goal.compare-requires
compare-requires c =
    let sound : IsSound c.args.machine = search rules in
    has_shape c.args.script.now c.args.machine c.args.report.now c.in-Ok.trace.legs c.requires.first sound c.read_reports_print.ensures c.in-Ok.ensures

pub returns-in_ok-ending-in-Ok : goal.returns-in_ok-ending-in-Ok
returns-in_ok-ending-in-Ok c =
    trace_said c.args.script.now c.args.machine c.args.report.now c.requires.within c.requires.first c.in-Ok.trace.legs c.read_reports_print.ensures
    c.in-Ok.ensures _ _ c.in_ok-ending-in-Ok.ensures

pub returns-in-Err : goal.returns-in-Err
returns-in-Err c =
    bad_said c.args.script.now c.args.machine c.args.report.now c.requires.within c.requires.first c.in-Err.error _ c.in-Err.ensures c.bad_trace.ensures
