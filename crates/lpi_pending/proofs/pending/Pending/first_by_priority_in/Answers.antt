use Rattle.std.proofs.Common.{◌+◌, ◌*◌, ◌/◌, ◌≤◌, length, subst, refl}
use Rattle.lpi_pending.specs.Looks.{Looked}
use Rattle.lpi_pending.specs.Priorities.{IsBest}
use Rattle.lpi_pending.specs.Searches.{count_in}
use Rattle.lpi_pending.specs.Summaries.{is_used}
use Rattle.lpi_pending.proofs.Bests.{best_cost}
use Rattle.lpi_pending.proofs.FirstOfAll.{best_is}
use Rattle.lpi_pending.proofs.pending.Pending.first_by_priority_in.Goals as goal

pub returns-in-Some-clause-found : goal.returns-in-Some-clause-found
returns-in-Some-clause-found g c =
    let best : IsBest c.self.inside.bitmap c.args.config.now.bytes c.args.mask (64 * length c.self.inside.bitmap) c.first_by_priority.result =
    subst (λ (l : Looked). IsBest l.words l.config c.args.mask (64 * length l.words) c.first_by_priority.result) c.looks.ensures.seen
    c.first_by_priority.ensures.best in
    rw (← c.self.view_is, best_is c.self.inside.bitmap c.args.config.now.bytes c.args.mask _ best, c.in-Some.is) refl

pub returns-in-Some-clause-cost : goal.returns-in-Some-clause-cost
returns-in-Some-clause-cost g c =
    let cost : c.first_by_priority.new.steps ≤ c.args.steps.now + length c.self.inside.bitmap / 64
    + 2 * count_in (is_used c.self.inside.bitmap) 0 (length c.self.inside.bitmap) + 64 =
    subst (λ (l : Looked). c.first_by_priority.new.steps ≤ c.args.steps.now + length l.words / 64
    + 2 * count_in (is_used l.words) 0 (length l.words) + 64)
    c.looks.ensures.seen c.first_by_priority.ensures.cost in
    rw (← c.self.view_is) (best_cost c.self.inside.bitmap c.self.inside.lpi_bits c.args.steps.now c.first_by_priority.new.steps
    c.self.invariant.size c.looks.ensures.words cost)

pub returns-in-None-clause-found : goal.returns-in-None-clause-found
returns-in-None-clause-found g c =
    let best : IsBest c.self.inside.bitmap c.args.config.now.bytes c.args.mask (64 * length c.self.inside.bitmap) c.first_by_priority.result =
    subst (λ (l : Looked). IsBest l.words l.config c.args.mask (64 * length l.words) c.first_by_priority.result) c.looks.ensures.seen
    c.first_by_priority.ensures.best in
    rw (← c.self.view_is, best_is c.self.inside.bitmap c.args.config.now.bytes c.args.mask _ best, c.in-None.is) refl

pub returns-in-None-clause-cost : goal.returns-in-None-clause-cost
returns-in-None-clause-cost g c =
    let cost : c.first_by_priority.new.steps ≤ c.args.steps.now + length c.self.inside.bitmap / 64
    + 2 * count_in (is_used c.self.inside.bitmap) 0 (length c.self.inside.bitmap) + 64 =
    subst (λ (l : Looked). c.first_by_priority.new.steps ≤ c.args.steps.now + length l.words / 64
    + 2 * count_in (is_used l.words) 0 (length l.words) + 64)
    c.looks.ensures.seen c.first_by_priority.ensures.cost in
    rw (← c.self.view_is) (best_cost c.self.inside.bitmap c.self.inside.lpi_bits c.args.steps.now c.first_by_priority.new.steps
    c.self.invariant.size c.looks.ensures.words cost)
