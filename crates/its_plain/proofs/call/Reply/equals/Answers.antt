use Rattle.its_plain.proofs.Exact.{decided}
use Rattle.its_plain.proofs.ExactReplies.{exact_reply}
use Rattle.its_plain.proofs.call.Reply.equals.Goals as goal

pub returns : goal.returns
returns c = decided exact_reply c.args.self.now c.args.other.now c.eq.result c.eq.ensures
