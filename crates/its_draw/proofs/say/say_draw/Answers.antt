use Rattle.its_answers.proofs.Agreed.{agreed_at}
use Rattle.its_draw.proofs.Said.{as_checked}
use Rattle.its_draw.proofs.say.say_draw.Goals as goal

pub draw-requires : goal.draw-requires
draw-requires c = agreed_at c.args.input.now _ c.in_ok-ending.ending.status c.in-Ok.is c.in_ok-ending.ensures

pub returns-in_default : goal.returns-in_default
returns-in_default c =
    as_checked c.args.input.now _ c.in_ok-ending.ending.status c.in_default.not-Ok c.in_ok-ending.ensures
