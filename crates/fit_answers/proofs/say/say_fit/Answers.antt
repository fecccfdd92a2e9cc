use Rattle.std.proofs.Common.{ℕ, List, Result, IfOk, subst}
use Rattle.event_script.proofs.Bounds.{checked_scripts_fit}
use Rattle.event_script.specs.Limits.{IsWithinLimits}
use Rattle.event_script.specs.declared.fault.ScriptFault.{ScriptFault}
use Rattle.event_script.specs.declared.script.Script.{Script}
use Rattle.fit_answers.proofs.Saying.{answered, failed_as, no_script}
use Rattle.fit_answers.proofs.say.say_fit.Goals as goal

abbrev Fits : Result (Script × List (List ℕ)) ScriptFault → Type 0
Fits r = IfOk r (λ p. IsWithinLimits p.0)

pub say_script-requires : goal.say_script-requires
say_script-requires c = subst Fits c.in-Ok.ensures (checked_scripts_fit c.args.input.now)

pub returns-clause-says : goal.returns-clause-says
returns-clause-says c = c.in_ok-ending.ensures c.args.input.now c.in-Ok.ensures

pub returns-clause-answered : goal.returns-clause-answered
returns-clause-answered c =
    answered c.args.input.now c.args.bound c.in_ok-ending.ending.status _ (c.in_ok-ending.ensures c.args.input.now c.in-Ok.ensures)

pub returns-in-Err-Fault-clause-answered : goal.returns-in-Err-Fault-clause-answered
returns-in-Err-Fault-clause-answered c =
    no_script c.args.input.now c.in-Err-Fault.fault
    (failed_as c.args.input.now c.in-Err-Fault.field-0 c.in-Err-Fault.fault c.in-Err-Fault.field-0-is c.in-Err-Fault.ensures)
