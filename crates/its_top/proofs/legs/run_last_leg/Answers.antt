use Rattle.std.specs.String.{string_bytes}
use Rattle.its_migrate.specs.Resting.{resting}
use Rattle.its_turns.specs.Machines.{setup}
use Rattle.its_answers.proofs.Told.{last_done}
use Rattle.its_top.proofs.legs.run_last_leg.Goals as goal

pub returns-in_ok-ending-in-Whole-clause-ok : goal.returns-in_ok-ending-in-Whole-clause-ok
returns-in_ok-ending-in-Whole-clause-ok g c =
    let m = c.args.machine.now in let s = setup m in
    let opened = rw c.in-Whole.is at c.in_ok-text.ensures.ok in
    last_done s.limits.place_last s.start (resting m c.open_leg.new.root) c.args.leg.now c.args.number (string_bytes c.in-Whole.text)
    (string_bytes c.args.report.now) (string_bytes c.open_leg.new.report) (string_bytes c.end_done.new.report) c.in_ok-ending-in-Whole.ending opened.0 opened.1
    c.in_ok-ending-in-Whole.ensures.ok
