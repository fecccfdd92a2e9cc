use Rattle.fit_answers.proofs.Saying.{bad_line}
use Rattle.fit_answers.proofs.say.say_phase.Goals as goal

pub returns-in-Err : goal.returns-in-Err
returns-in-Err c =
    bad_line c.args.script.now c.args.calls.now c.args.report.now c.args.bound c.in-Err.error _ c.requires.one c.in-Err.ensures c.bad_trace.ensures
