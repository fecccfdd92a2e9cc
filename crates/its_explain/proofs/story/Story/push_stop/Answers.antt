use Rattle.its_explain.proofs.Since.{tells_move}
use Rattle.its_explain.proofs.story.Story.push_stop.Goals as goal

pub returns-in-Ok : goal.returns-in-Ok
returns-in-Ok c =
    tells_move c.args.self.now.book c.move_on.new.self.book c.args.self.now.machine c.move_on.new.self.machine c.in-Ok.ensures.book c.in-Ok.ensures.ok
