use Rattle.std.proofs.Common.{◌≡◌, length, arith}
use Rattle.std.proofs.lemmas.Grind.{common_steps}
use Rattle.its_fit.proofs.Reports.{all_left, next_left}
use Rattle.its_fit.proofs.lines.entries.Goals as goal

pub loop-rest-init : goal.loop-rest-init
loop-rest-init c = λ all names. all_left c.args.told.now all c.new-lines.result.items c.args.calls.now c.new-lines.ensures.items names

pub loop-rest-preserved : goal.loop-rest-preserved
loop-rest-preserved c = λ all names.
    let is = rw c.in-Some.is at c.in_ok-line.ensures in
    let place : c.len-place.result ≡ length c.loop-rest.lines.items = omega (arith, c.len-place.ensures, c.loop-rest.lines.ok.0) in
    next_left c.args.told.now all c.loop-rest.lines.items c.push.new.self.items c.len-place.result _ c.loop-rest.rest.now _ c.in-Some.line
    (grind (arith, common_steps)) c.in_ok-push.ensures.items place is (c.loop-rest.invariant all names)
