use Rattle.std.proofs.Common.{refl}
use Rattle.its_answers.proofs.Saying.{run_said}
use Rattle.its_web.proofs.say.say_script.Goals as goal

pub new-requires : goal.new-requires
new-requires c = c.requires.within.description

pub returns-clause-ok : goal.returns-clause-ok
returns-clause-ok c = run_said c.args.script.now _ _ c.in-Ok.ensures refl c.in_ok-ending.ending.status _ c.in_ok-ending.ensures.ok
