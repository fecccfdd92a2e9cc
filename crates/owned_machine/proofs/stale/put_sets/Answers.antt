use Rattle.std.proofs.Common.{sym, subst, ◌∙◌, arith}
use Rattle.owned_machine.specs.Stale.{FitsPlace}
use Rattle.owned_machine.proofs.Put.{dropped_first, dropped_rest, dropped_within, one_put}
use Rattle.owned_machine.proofs.stale.put_sets.Goals as goal

pub put-requires-clause-fits : goal.put-requires-clause-fits
put-requires-clause-fits c =
    let all = c.args.sets.items in
    let v = c.loop-pending.vcpu in
    let i = c.loop-pending.invariant in
    let next = sym c.in-Some.ensures.steps.0 ∙ i.left in
    let rest = c.next.new.self.rest.items in
    let set = c.in-Some.pending in
    subst (FitsPlace set) (sym (i.put.rest v (λ lt. omega (arith, lt))))
    (c.requires.fit v set (dropped_within all rest v set next) (dropped_first all rest v set next))

pub loop-pending-preserved : goal.loop-pending-preserved
loop-pending-preserved c =
    let all = c.args.sets.items in
    let v = c.loop-pending.vcpu in
    let i = c.loop-pending.invariant in
    let next = sym c.in-Some.ensures.steps.0 ∙ i.left in
    let rest = c.next.new.self.rest.items in
    let lt = dropped_within all rest v c.in-Some.pending next in
    record {
      can_next = tt;
      is_finite = tt;
      within = omega (arith, lt);
      left = dropped_rest all rest v c.in-Some.pending next;
      put = one_put c.args.redists.now c.loop-pending.redists c.put.new.redists all v c.in-Some.pending i.put (dropped_first all rest v c.in-Some.pending next)
          (c.requires.held v lt) c.put.ensures;
    }
