use Rattle.std.proofs.Common.{◌≡◌, length}
use Rattle.its_web.proofs.Gone.{Begins, Gone}
use Rattle.its_web.proofs.Left.{left}
use Rattle.std.proofs.Common.{drop}
use Rattle.its_web.proofs.play.play_leg.Given as goal

abbrev pub invariant-loop-index : goal.invariant-loop-index
invariant-loop-index l = Begins l.last l.fn.machine l.leg l.lines.items l.machine l.index

abbrev pub invariant-loop-next : goal.invariant-loop-next
invariant-loop-next l = record {
  gone : Gone l.last l.fn.machine l.leg l.lines.items l.machine l.index l.made.items;
  long : length l.made.items ≡ length l.threads;
}

abbrev pub decreases-loop-next : goal.decreases-loop-next
decreases-loop-next l = left (drop l.index l.leg) l.made.items
