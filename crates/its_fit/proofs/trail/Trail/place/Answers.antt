use Rattle.std.proofs.Common.{◌≡◌, ◌∙◌, ◌<◌, length, Some, sym, ap, arith}
use Rattle.std.specs.Prelude.{option_map}
use Rattle.its_fit.specs.Replays.{told_at}
use Rattle.its_fit.proofs.Orders.{more_at}
use Rattle.its_fit.proofs.trail.Trail.place.Goals as goal

pub returns : goal.returns
returns c =
    let self = c.args.self.now in let n = c.index-call.result.now in
    let lt : c.args.thread < length self.front.items = omega (arith, c.if-thread-len.false, c.len.ensures) in
    let told : told_at c.args.told.now c.args.thread n ≡ Some c.in-Some.answered.now = sym c.told_at.ensures ∙ ap (option_map (λ a. a.now)) c.in-Some.is in
    λ e. more_at c.args.told.now self.calls.items self.front.items self.latest c.args.thread c.later_of-latest.result n c.in-Some.answered.now c.push.new.self.items
    c.requires lt c.index-call.ensures told c.later_of-latest.ensures.first c.later_of-latest.ensures.second (omega (arith, c.if-latest-span.false)) c.in_ok-push.ensures.items
