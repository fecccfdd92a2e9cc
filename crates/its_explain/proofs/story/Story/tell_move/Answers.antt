use Rattle.its_explain.proofs.Since.{tells_move, always}
use Rattle.its_explain.proofs.story.Story.tell_move.Goals as goal

pub returns-in-Ok : goal.returns-in-Ok
returns-in-Ok c =
    always c.tell_pages.result
    (tells_move c.args.self.now.book c.move_on.new.self.book c.args.self.now.machine c.move_on.new.self.machine c.in-Ok.ensures.book
    c.in-Ok.ensures.ok)
