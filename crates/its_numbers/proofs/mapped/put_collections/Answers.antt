use Rattle.std.proofs.Common.{◌≡◌, ◌<◌, ◌+◌, ℕ, true, List, length, sym, subst, arith, rules}
use Rattle.std.specs.Prelude.{nat_le, slice_set}
use Rattle.std.specs.FinMap.{entries}
use Rattle.its_types.specs.declared.ids.Vcpu.{Vcpu}
use Rattle.its_numbers.specs.Mapped as spec
use Rattle.its_numbers.specs.declared.mapped.CollectionOut.{CollectionOut}
use Rattle.its_numbers.proofs.ToldFrom.{IsTold, told_more}
use Rattle.its_numbers.proofs.mapped.put_collections.Goals as goal

pub loop-icid-preserved-then-from : goal.loop-icid-preserved-then-from
loop-icid-preserved-then-from c =
    let l = c.loop-icid in
    let all = entries c.args.maps.now.maps.collections in
    let n = c.args.from in
    let x : ℕ × Vcpu = (c.in-Some.icid.0, c.in-Some.vcpu) in
    let before = c.args.list.now in
    let kept : nat_le n c.in-Some.icid.0 ≡ true = search (rules, c.if-from.true) in
    let room : l.at < length l.list = omega (arith, c.if-at-list.false) in
    record {
      can_next = tt;
      is_finite = tt;
      told = subst (λ (o : CollectionOut). IsTold spec.collection_out n all c.next.new.self before (slice_set l.list l.at o) (l.at + 1))
          (sym c.collection_out.ensures)
          (told_more spec.collection_out n all before c.next.new.self l.list l.at x
          (subst (λ (xs : List (ℕ × Vcpu)). IsTold spec.collection_out n all xs before l.list l.at) c.in-Some.ensures.steps l.invariant.told) kept room);
    }
