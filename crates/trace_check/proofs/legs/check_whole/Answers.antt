use Rattle.std.proofs.Common.{Bool, Option, subst}
use Rattle.its_history.specs.ReadBack.{EndsBefore}
use Rattle.trace_check.specs.Differences.{IsHere}
use Rattle.trace_check.proofs.Checked.{not_here}
use Rattle.trace_check.proofs.legs.check_whole.Goals as goal

pub returns-in-Some-clause-wrong : goal.returns-in-Some-clause-wrong
returns-in-Some-clause-wrong c =
    let n = c.args.number in let first = c.args.machine.now in let leg = c.args.leg.now in let told = c.args.told.now in let d = c.in-Some.difference in
    let here : IsHere n first leg told d = rw c.in-Some.is at c.in_ok-difference.ensures.wrong in
    not_here n first leg told c.args.copies d here

pub check_end-requires : goal.check_end-requires
check_end-requires c = subst (λ (m : Option Bool). EndsBefore m c.args.told.now.end) c.in-Some-copies.is c.requires.ends
