use Rattle.std.proofs.Common.{◌+◌, ◌*◌, ◌/◌, ◌≤◌, length, subst, sym, ap}
use Rattle.std.specs.Option.{option_map}
use Rattle.lpi_pending.specs.Looks.{Looked}
use Rattle.lpi_pending.specs.PendingSets.{as_intid}
use Rattle.lpi_pending.specs.Searches.{NoneIn, IsFirstIn, count_in}
use Rattle.lpi_pending.specs.Summaries.{is_used, is_ready}
use Rattle.lpi_pending.proofs.Firsts.{first_is, none_is, cost_is}
use Rattle.lpi_pending.proofs.pending.Pending.first_enabled_in.Goals as goal

pub returns-in-Some-clause-found : goal.returns-in-Some-clause-found
returns-in-Some-clause-found g c =
    let first : IsFirstIn (is_ready c.self.inside.bitmap c.args.config.now.bytes) 0 (64 * length c.self.inside.bitmap) c.in-Some.at =
    subst (λ (l : Looked). IsFirstIn (is_ready l.words l.config) 0 (64 * length l.words) c.in-Some.at) c.looks.ensures.seen c.in-Some.ensures.found in
    rw (← c.self.view_is) (sym (ap (option_map as_intid) (first_is c.self.inside.bitmap c.args.config.now.bytes c.in-Some.at first)))

pub returns-in-Some-clause-cost : goal.returns-in-Some-clause-cost
returns-in-Some-clause-cost g c =
    let cost : c.first_ready.new.steps ≤ c.args.steps.now + length c.self.inside.bitmap / 64
    + count_in (is_used c.self.inside.bitmap) 0 (length c.self.inside.bitmap) =
    subst (λ (l : Looked). c.first_ready.new.steps ≤ c.args.steps.now + length l.words / 64 + count_in (is_used l.words) 0 (length l.words))
    c.looks.ensures.seen c.first_ready.ensures.cost in
    rw (← c.self.view_is) (cost_is c.self.inside.bitmap c.self.inside.lpi_bits c.args.steps.now c.first_ready.new.steps c.self.invariant.size
    c.looks.ensures.words cost)

pub returns-in-None-clause-found : goal.returns-in-None-clause-found
returns-in-None-clause-found g c =
    let none : NoneIn (is_ready c.self.inside.bitmap c.args.config.now.bytes) 0 (64 * length c.self.inside.bitmap) =
    subst (λ (l : Looked). NoneIn (is_ready l.words l.config) 0 (64 * length l.words)) c.looks.ensures.seen c.in-None.ensures.found in
    rw (← c.self.view_is) (sym (ap (option_map as_intid) (none_is c.self.inside.bitmap c.args.config.now.bytes none)))

pub returns-in-None-clause-cost : goal.returns-in-None-clause-cost
returns-in-None-clause-cost g c =
    let cost : c.first_ready.new.steps ≤ c.args.steps.now + length c.self.inside.bitmap / 64
    + count_in (is_used c.self.inside.bitmap) 0 (length c.self.inside.bitmap) =
    subst (λ (l : Looked). c.first_ready.new.steps ≤ c.args.steps.now + length l.words / 64 + count_in (is_used l.words) 0 (length l.words))
    c.looks.ensures.seen c.first_ready.ensures.cost in
    rw (← c.self.view_is) (cost_is c.self.inside.bitmap c.self.inside.lpi_bits c.args.steps.now c.first_ready.new.steps c.self.invariant.size
    c.looks.ensures.words cost)
