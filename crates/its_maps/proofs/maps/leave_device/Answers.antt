use Rattle.std.proofs.Common.{ℕ, Some, None, ap, arith}
use Rattle.std.specs.List.{sum_by}
use Rattle.its_types.specs.declared.translation.Event.{Event}
use Rattle.its_maps.specs.Counting.{one, naming}
use Rattle.its_maps.proofs.Counted.{device_counted, device_within, after_drop}
use Rattle.its_maps.proofs.maps.leave_device.Goals as goal

pub overflow_sub-counts : goal.overflow_sub-counts
overflow_sub-counts c = device_counted c.args.counts.now c.args.devices.now.map c.requires c.args.dev.0 c.in-Some.record.now c.in-Some.ensures

pub leave_all-requires-clause-some : goal.leave_all-requires-clause-some
leave_all-requires-clause-some c =
    let within = device_within c.args.counts.now c.args.devices.now.map c.requires c.args.dev.0 c.in-Some.record.now c.in-Some.ensures one in
    let walked = ap (sum_by (λ (e : ℕ × Event). one e.1)) c.walk.ensures in
    omega (arith, walked, within, c.requires.events)

pub leave_all-requires-clause-named : goal.leave_all-requires-clause-named
leave_all-requires-clause-named c n lt =
    let within = device_within c.args.counts.now c.args.devices.now.map c.requires c.args.dev.0 c.in-Some.record.now c.in-Some.ensures (naming n) in
    let walked = ap (sum_by (λ (e : ℕ × Event). naming n e.1)) c.walk.ensures in
    omega (arith, walked, within, c.requires.named n lt)

pub returns-in-Some : goal.returns-in-Some
returns-in-Some c =
    let counts = c.args.counts.now in
    let left = c.leave_all.ensures in
    let walked : (f : Event → ℕ) → _ = λ f. ap (sum_by (λ (e : ℕ × Event). f e.1)) c.walk.ensures in
    after_drop counts c.args.devices.now.map c.requires c.args.dev.0 (Some c.in-Some.record.now) c.in-Some.ensures c.leave_all.new.self
    (let some = device_counted counts c.args.devices.now.map c.requires c.args.dev.0 c.in-Some.record.now c.in-Some.ensures in
    omega (arith, left.devices, some))
    (let all = walked one in omega (arith, left.events, all))
    left.tally
    (λ k lt. let all = walked (naming k) in omega (arith, left.named k lt, all))

pub returns-in_default : goal.returns-in_default
returns-in_default c =
    after_drop c.args.counts.now c.args.devices.now.map c.requires c.args.dev.0 None c.in_default.ensures c.args.counts.now (omega arith) (omega arith)
    c.requires.table (λ k lt. omega arith)
