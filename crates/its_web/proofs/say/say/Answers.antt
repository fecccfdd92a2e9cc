use Rattle.std.proofs.Common.{◌≡◌, ℕ, List, Result, Ok, IfOk, subst}
use Rattle.event_script.proofs.Bounds.{scripts_fit}
use Rattle.event_script.specs.Limits.{IsWithinLimits}
use Rattle.event_script.specs.Script.{script_of}
use Rattle.event_script.specs.declared.fault.ScriptFault.{ScriptFault}
use Rattle.event_script.specs.declared.script.Script.{Script}
use Rattle.its_answers.proofs.Saying.{script_said}
use Rattle.its_web.proofs.say.say.Goals as goal

fits : (input : List ℕ) (script : Script) → script_of input ≡ Ok script → IsWithinLimits script
fits input script read = subst (λ (r : Result Script ScriptFault). IfOk r IsWithinLimits) read (scripts_fit input)

pub say_script-requires-clause-within : goal.say_script-requires-clause-within
say_script-requires-clause-within c = fits c.args.input.now c.in-Ok.script c.in-Ok.ensures

pub returns-clause-ok : goal.returns-clause-ok
returns-clause-ok c = script_said c.args.input.now c.in-Ok.script c.in-Ok.ensures c.in_ok-ending.ending.status _ c.in_ok-ending.ensures.ok
