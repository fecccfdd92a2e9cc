use Rattle.std.specs.String.{string_bytes}
use Rattle.its_answers.proofs.Told.{last_done}
use Rattle.its_web.proofs.legs.run_last_leg.Goals as goal

pub returns-in_ok-ending-in-Whole : goal.returns-in_ok-ending-in-Whole
returns-in_ok-ending-in-Whole c =
    let opened = rw c.in-Whole.is at c.in_ok-text.ensures in
    last_done c.args.last c.args.machine.now c.open_leg.new.machine c.args.leg.now c.args.number (string_bytes c.in-Whole.text)
    (string_bytes c.args.report.now) (string_bytes c.open_leg.new.report) (string_bytes c.end_done.new.report) c.in_ok-ending-in-Whole.ending opened.0 opened.1
    c.in_ok-ending-in-Whole.ensures.ok
