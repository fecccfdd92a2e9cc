use Rattle.its_answers.proofs.Agreed.{agreed_at}
use Rattle.report_places.proofs.Said.{as_checked}
use Rattle.report_places.proofs.say.say_place.Goals as goal

pub list-requires : goal.list-requires
list-requires c = agreed_at c.args.input.now _ c.in_ok-ending.ending.status c.in-Ok.is c.in_ok-ending.ensures

pub returns-in_default : goal.returns-in_default
returns-in_default c =
    as_checked c.args.input.now c.args.leg c.args.place _ c.in_ok-ending.ending.status c.in_default.not-Ok c.in_ok-ending.ensures
