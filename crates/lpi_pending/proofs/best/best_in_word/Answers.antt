use Rattle.std.proofs.Common.{arith}
use Rattle.lpi_pending.proofs.Bests.{best_next, best_end, priorities_left}
use Rattle.lpi_pending.proofs.best.best_in_word.Goals as goal

pub returns-in_default-clause-best : goal.returns-in_default-clause-best
returns-in_default-clause-best g c mask is =
    best_end c.args.looks.now.words c.args.looks.now.config mask c.args.at c.loop-from.from c.loop-from.best c.loop-from.invariant.within
    c.in_default.ensures.found (c.loop-from.invariant.best mask is)

pub loop-from-preserved : goal.loop-from-preserved
loop-from-preserved g c =
    let words = c.args.looks.now.words in
    let config = c.args.looks.now.config in
    let at = c.args.at in
    let lpi = c.in-Some.lpi in
    let next = c.in-Some.ensures.found in
    let left = priorities_left words config c.loop-from.best.limit at c.loop-from.from lpi.bit lpi.priority next in
    record {
      within = let lt = next.below in omega (arith, lt);
      best = λ mask is. best_next words config mask at c.loop-from.from lpi.bit lpi.priority c.loop-from.best next (c.loop-from.invariant.best mask is);
      cost = omega (arith, c.loop-from.invariant.cost, c.in-Some.ensures.cost, left);
    }
