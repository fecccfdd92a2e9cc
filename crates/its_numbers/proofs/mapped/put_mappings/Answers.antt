use Rattle.std.proofs.Common.{◌≡◌, ◌<◌, ◌+◌, ℕ, true, List, length, sym, subst, arith, rules}
use Rattle.std.specs.Prelude.{nat_le, slice_set}
use Rattle.its_maps.specs.Walks.{events_left}
use Rattle.its_types.specs.Maps.{events_at}
use Rattle.its_types.specs.declared.translation.Event.{Event}
use Rattle.its_numbers.specs.Mapped as spec
use Rattle.its_numbers.specs.declared.mapped.MappingOut.{MappingOut}
use Rattle.its_numbers.proofs.ToldFrom.{IsTold, told_more}
use Rattle.its_numbers.proofs.mapped.put_mappings.Goals as goal

pub loop-ev-preserved-then-ev-from : goal.loop-ev-preserved-then-ev-from
loop-ev-preserved-then-ev-from c =
    let l = c.loop-ev in
    let all = events_at c.args.maps.now.maps c.args.device in
    let n = c.args.from in
    let x : ℕ × Event = (c.in-Some.ev.0, c.in-Some.event) in
    let before = c.args.list.now in
    let kept : nat_le n c.in-Some.ev.0 ≡ true = search (rules, c.if-ev-from.true) in
    let room : l.at < length l.list = omega (arith, c.if-at-list.false) in
    record {
      can_next = tt;
      is_finite = tt;
      told = subst (λ (o : MappingOut). IsTold spec.mapping_out n all (events_left c.next.new.self) before (slice_set l.list l.at o) (l.at + 1))
          (sym c.mapping_out.ensures)
          (told_more spec.mapping_out n all before (events_left c.next.new.self) l.list l.at x
          (subst (λ (xs : List (ℕ × Event)). IsTold spec.mapping_out n all xs before l.list l.at) c.in-Some.ensures.steps l.invariant.told) kept room);
    }
