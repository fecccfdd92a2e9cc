use Rattle.its_answers.proofs.Checking.{first_said}
use Rattle.its_answers.proofs.check.check_script.Goals as goal

pub new-requires : goal.new-requires
new-requires c = c.requires.description

pub returns : goal.returns
returns c =
    first_said c.args.script.now c.in-Ok.machine c.args.report.now c.in-Ok.ensures c.in_ok-ending.ending.status _ c.in_ok-ending.ensures
