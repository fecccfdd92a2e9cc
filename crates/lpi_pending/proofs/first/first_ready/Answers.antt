use Rattle.std.proofs.Common.{◌+◌, arith}
use Rattle.lpi_pending.proofs.Searching.{found_first, none_so_far, none_at_all, cost_so_far, cost_in_all, cost_to_end, cost_to_found}
use Rattle.lpi_pending.proofs.first.first_ready.Goals as goal

pub returns-in-Some-first_in_group-clause-found : goal.returns-in-Some-first_in_group-clause-found
returns-in-Some-first_in_group-clause-found g c =
    found_first c.args.looks.now.words c.args.looks.now.config c.loop-used.at c.in-Some.used.group c.in-Some.used.words c.in-Some-first_in_group.first
    c.in-Some.ensures.found c.loop-used.invariant.before c.in-Some-first_in_group.ensures.found

pub returns-in-Some-first_in_group-clause-cost : goal.returns-in-Some-first_in_group-clause-cost
returns-in-Some-first_in_group-clause-cost g c =
    let next = c.in-Some.ensures.found in
    cost_in_all c.args.looks.now.words (c.in-Some.used.group + 1) c.args.steps.now c.first_in_group.new.steps
    (let below = next.below in omega (arith, below))
    (cost_so_far c.args.looks.now.words c.loop-used.at c.in-Some.used.group c.in-Some.used.words c.args.steps.now c.loop-used.steps c.next_used.new.steps
    c.first_in_group.new.steps
    next c.loop-used.invariant.cost c.in-Some.ensures.cost c.first_in_group.ensures.cost)

pub returns-in-Some-first_in_group-clause-stops : goal.returns-in-Some-first_in_group-clause-stops
returns-in-Some-first_in_group-clause-stops g c =
    cost_to_found c.args.looks.now.words c.args.looks.now.config c.in-Some.used.group c.args.steps.now c.first_in_group.new.steps
    c.in-Some-first_in_group.first c.in-Some-first_in_group.ensures.found
    (cost_so_far c.args.looks.now.words c.loop-used.at c.in-Some.used.group c.in-Some.used.words c.args.steps.now c.loop-used.steps c.next_used.new.steps
    c.first_in_group.new.steps
    c.in-Some.ensures.found c.loop-used.invariant.cost c.in-Some.ensures.cost c.first_in_group.ensures.cost)

pub loop-used-preserved : goal.loop-used-preserved
loop-used-preserved g c =
    let next = c.in-Some.ensures.found in
    record {
      within = let below = next.below in omega (arith, below);
      before = none_so_far c.args.looks.now.words c.args.looks.now.config c.loop-used.at c.in-Some.used.group c.in-Some.used.words next
          c.loop-used.invariant.before c.in_default-first_in_group.ensures.found;
      cost = cost_so_far c.args.looks.now.words c.loop-used.at c.in-Some.used.group c.in-Some.used.words c.args.steps.now c.loop-used.steps
          c.next_used.new.steps c.first_in_group.new.steps
          next c.loop-used.invariant.cost c.in-Some.ensures.cost c.first_in_group.ensures.cost;
    }

pub returns-clause-found : goal.returns-clause-found
returns-clause-found g c =
    none_at_all c.args.looks.now.words c.args.looks.now.config c.loop-used.at c.in_default.ensures.found c.loop-used.invariant.before

pub returns-clause-cost : goal.returns-clause-cost
returns-clause-cost g c =
    cost_to_end c.args.looks.now.words c.loop-used.at c.args.steps.now c.loop-used.steps c.next_used.new.steps c.loop-used.invariant.within
    c.loop-used.invariant.cost c.in_default.ensures.cost
