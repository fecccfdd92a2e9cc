use Rattle.std.proofs.Common.{cond, Some, None, sym, ap, ◌∙◌, arith, le-leb, ltb-false}
use Rattle.std.proofs.lemmas.Bool.{lt-leb}
use Rattle.its_plain.proofs.Rising.{found_past, found_here}
use Rattle.its_plain.proofs.requester_ranges.found_rising.Goals as goal

pub returns-in_err-range : goal.returns-in_err-range
returns-in_err-range c =
    c.from_residual.ensures
    ∙ found_past c.args.requester c.args.ranges.now c.first_ending_from.result c.requires c.first_ending_from.ensures
    (ltb-false _ _ (sym c.in_err-range.ensures.lookup.0))

pub returns-then-range-requester : goal.returns-then-range-requester
returns-then-range-requester c =
    let r = c.in_ok-range.range.now in
    let look = c.in_ok-range.ensures.lookup in
    ap (λ b. cond b (Some r) None) (sym (le-leb r.first c.args.requester c.if-range-requester.true))
    ∙ found_here c.args.requester c.args.ranges.now c.first_ending_from.result c.requires c.first_ending_from.ensures (omega (arith, look.3.0)) r look.1

pub returns-else-range-requester : goal.returns-else-range-requester
returns-else-range-requester c =
    let r = c.in_ok-range.range.now in
    let look = c.in_ok-range.ensures.lookup in
    ap (λ b. cond b (Some r) None) (sym (lt-leb r.first c.args.requester c.if-range-requester.false))
    ∙ found_here c.args.requester c.args.ranges.now c.first_ending_from.result c.requires c.first_ending_from.ensures (omega (arith, look.3.0)) r look.1
