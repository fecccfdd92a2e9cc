use Rattle.std.proofs.Common.{ℕ, List, Result, IfOk, subst}
use Rattle.event_script.proofs.Bounds.{checked_scripts_fit}
use Rattle.event_script.specs.Limits.{IsWithinLimits}
use Rattle.event_script.specs.declared.fault.ScriptFault.{ScriptFault}
use Rattle.event_script.specs.declared.script.Script.{Script}
use Rattle.its_answers.proofs.Checking.{report_said}
use Rattle.its_answers.proofs.check.say_check.Goals as goal

abbrev Fits : Result (Script × List (List ℕ)) ScriptFault → Type 0
Fits r = IfOk r (λ p. IsWithinLimits p.0)

pub check_script-requires : goal.check_script-requires
check_script-requires c = subst Fits c.in-Ok.ensures (checked_scripts_fit c.args.input.now)

pub returns : goal.returns
returns c =
    report_said c.args.input.now c.in-Ok.input.script c.in-Ok.input.report.now c.in-Ok.ensures c.in_ok-ending.ending.status _ c.in_ok-ending.ensures
