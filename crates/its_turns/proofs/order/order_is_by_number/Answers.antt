use Rattle.its_turns.proofs.Ordering.{by_number}
use Rattle.its_turns.proofs.order.order_is_by_number.Goals as goal

pub returns : goal.returns
returns c = by_number
