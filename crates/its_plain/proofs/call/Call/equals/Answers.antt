use Rattle.its_plain.proofs.Exact.{decided}
use Rattle.its_plain.proofs.ExactCalls.{exact_call}
use Rattle.its_plain.proofs.call.Call.equals.Goals as goal

pub returns : goal.returns
returns c = decided exact_call c.args.self.now c.args.other.now c.eq.result c.eq.ensures
