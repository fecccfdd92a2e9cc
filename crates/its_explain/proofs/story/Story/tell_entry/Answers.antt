use Rattle.its_explain.proofs.Since.{tells_called}
use Rattle.its_explain.proofs.story.Story.tell_entry.Goals as goal

pub returns : goal.returns
returns c =
    let u = c.args.self.now in
    let v = c.tell_call.new.self in
    tells_called c.tell_call.result u.book v.book u.machine v.machine c.in-Some.next c.tell_call.ensures.machine c.tell_call.ensures.changers
    c.tell_call.ensures.writers
