use Rattle.std.proofs.Common.{◌*◌, length, arith}
use Rattle.lpi_pending.proofs.Bests.{best_past, best_to_word, cost_with_word, cost_of_all, cost_of_used}
use Rattle.lpi_pending.proofs.best.first_by_priority.Goals as goal

pub loop-at-preserved : goal.loop-at-preserved
loop-at-preserved g c =
    let words = c.args.looks.now.words in
    let config = c.args.looks.now.config in
    let next = c.in-Some.ensures.found in
    record {
      within = let below = next.below in omega (arith, below);
      best = c.best_in_word-best.ensures.best c.args.mask
          (best_to_word words config c.args.mask c.loop-at.from c.in-Some.at c.loop-at.best next c.loop-at.invariant.best);
      cost = cost_with_word words config c.loop-at.from c.in-Some.at c.args.steps.now c.args.mask c.loop-at.steps
          c.next_word.new.steps c.best_in_word-best.new.steps c.best_in_word-best.result.limit c.loop-at.best next c.loop-at.invariant.best
          c.loop-at.invariant.cost c.in-Some.ensures.cost c.best_in_word-best.ensures.cost;
    }

pub returns-clause-best : goal.returns-clause-best
returns-clause-best g c =
    let words = c.args.looks.now.words in
    best_past words c.args.looks.now.config c.args.mask (64 * c.loop-at.from) (64 * length words) c.loop-at.best
    (omega (arith, c.loop-at.invariant.within)) c.in_default.ensures.found c.loop-at.invariant.best

pub returns-clause-stops : goal.returns-clause-stops
returns-clause-stops g c =
    cost_of_all c.args.looks.now.words c.args.looks.now.config c.loop-at.from c.args.steps.now c.args.mask c.loop-at.steps c.loop-at.best.limit
    c.next_word.new.steps c.loop-at.invariant.within c.loop-at.invariant.cost c.in_default.ensures.cost

pub returns-clause-cost : goal.returns-clause-cost
returns-clause-cost g c =
    cost_of_used c.args.looks.now.words c.args.looks.now.config c.args.steps.now c.args.mask c.next_word.new.steps (omega arith)
    (cost_of_all c.args.looks.now.words c.args.looks.now.config c.loop-at.from c.args.steps.now c.args.mask c.loop-at.steps c.loop-at.best.limit
    c.next_word.new.steps c.loop-at.invariant.within c.loop-at.invariant.cost c.in_default.ensures.cost)
