use Rattle.std.proofs.Common.{◌≡◌, ◌<◌, ◌+◌, ℕ, true, List, length, sym, subst, arith, rules}
use Rattle.std.specs.Prelude.{nat_le, slice_set}
use Rattle.std.specs.FinMap.{entries}
use Rattle.its_types.specs.declared.translation.Device.{Device}
use Rattle.its_numbers.specs.Mapped as spec
use Rattle.its_numbers.specs.declared.mapped.DeviceOut.{DeviceOut}
use Rattle.its_numbers.proofs.ToldFrom.{IsTold, told_more}
use Rattle.its_numbers.proofs.mapped.put_devices.Goals as goal

pub loop-dev-preserved-then-dev-from : goal.loop-dev-preserved-then-dev-from
loop-dev-preserved-then-dev-from c =
    let l = c.loop-dev in
    let all = entries c.args.maps.now.maps.devices in
    let n = c.args.from in
    let x : ℕ × Device = (c.in-Some.dev.0, c.in-Some.device) in
    let before = c.args.list.now in
    let kept : nat_le n c.in-Some.dev.0 ≡ true = search (rules, c.if-dev-from.true) in
    let room : l.at < length l.list = omega (arith, c.if-at-list.false) in
    record {
      can_next = tt;
      is_finite = tt;
      told = subst (λ (o : DeviceOut). IsTold spec.device_out n all c.next.new.self before (slice_set l.list l.at o) (l.at + 1))
          (sym c.device_out.ensures)
          (told_more spec.device_out n all before c.next.new.self l.list l.at x
          (subst (λ (xs : List (ℕ × Device)). IsTold spec.device_out n all xs before l.list l.at) c.in-Some.ensures.steps l.invariant.told) kept room);
    }
