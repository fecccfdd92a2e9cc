use Rattle.std.proofs.Common.{codes, append_assoc}
use Rattle.std.specs.Fmt.{decimal}
use Rattle.its_history.specs.Texts.{restore_fault_text}
use Rattle.its_history.proofs.faults.push_restore_fault.Goals as goal

pub returns-in-BadTarget : goal.returns-in-BadTarget
unfolding restore_fault_text
returns-in-BadTarget c = rw (c.in-BadTarget.is, append_assoc (decimal c.in-BadTarget.icid.0) (codes " ") (decimal c.in-BadTarget.number))
    c.write-in-BadTarget.ensures.bytes

pub returns-in-BadRedist : goal.returns-in-BadRedist
unfolding restore_fault_text
returns-in-BadRedist c = rw c.in-BadRedist.is c.write-in-BadRedist.ensures.bytes
