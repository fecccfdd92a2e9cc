use Rattle.its_answers.proofs.Agreed.{no_refusal_as}
use Rattle.report_places.proofs.say.first_machine.Goals as goal

pub new-requires : goal.new-requires
new-requires c = c.requires.description

pub unreachable-requires : goal.unreachable-requires
unreachable-requires c = no_refusal_as c.args.script.now c.in-Err-Fault.field-0 _ c.in-Err-Fault.field-0-is c.requires c.in-Err-Fault.ensures
