use Rattle.std.proofs.Common.{◌≡◌, ◌∙◌, ◌<◌, ◌+◌, ◌-◌, Bool, true, false, List, drop, length, Ok, Err, sym, ap, refl}
use Rattle.its_history.specs.Reading.{left, parts, leg_from, legs_from, is_over, trace_of}
use Rattle.its_history.specs.declared.trace.Leg.{Leg}
use Rattle.its_history.proofs.ReadLines.{is_over_at_end, not_over, above_zero}
use Rattle.its_history.proofs.ReadLegs.{in_front, legs_on, legs_stop, legs_end, stopped, trace_by}
use Rattle.its_history.proofs.reading.parse_trace.Goals as goal

pub loop-earlier-preserved : goal.loop-earlier-preserved
loop-earlier-preserved c =
    let l = c.loop-earlier in
    let now = left c.leg.new.self in
    l.invariant
    ∙ legs_on c.args.copies.now l.read c.args.vcpus l.earlier c.args.legs (left l.lines) c.in_ok-leg.leg now c.loop-earlier-test.true
    (ap (λ m. leg_from c.args.vcpus (l.earlier + 1) m (left l.lines)) (sym c.move_after-next.ensures) ∙ c.in_ok-leg.ensures)
    ∙ ap (λ (ls : List Leg). in_front ls (legs_from c.args.vcpus (l.earlier + 1 + 1) (c.args.legs - (l.earlier + 1)) (drop (l.earlier + 1) c.args.copies.now)
    now)) (sym c.in_ok-push.ensures.ok)

pub returns-in_err-leg : goal.returns-in_err-leg
returns-in_err-leg c =
    let l = c.loop-earlier in
    let before : List Bool = c.args.copies.now in
    stopped c.from_residual.result c.in_err-leg.field-0.0 (trace_of c.args.legs before c.args.vcpus c.args.report.now)
    (leg_from c.args.vcpus (l.earlier + 1) c.move_after-next.result (left l.lines)) (left c.leg.new.self)
    c.from_residual.ensures.1 c.in_err-leg.ensures
    (λ n is. trace_by c.args.legs before c.args.vcpus c.args.report.now (Err n) (l.invariant
    ∙ legs_stop before l.read c.args.vcpus l.earlier c.args.legs (left l.lines) n c.loop-earlier-test.true
    (ap (λ m. leg_from c.args.vcpus (l.earlier + 1) m (left l.lines)) (sym c.move_after-next.ensures) ∙ is)))

pub returns-then-is_empty : goal.returns-then-is_empty
returns-then-is_empty c =
    let l = c.loop-earlier in
    let over : is_over (parts l.lines.rest.now) ≡ true = is_over_at_end l.lines.rest.now (sym c.is_empty.ensures ∙ c.if-is_empty.true) in
    trace_by c.args.legs c.args.copies.now c.args.vcpus c.args.report.now (Ok (l.read, left l.lines)) (l.invariant
    ∙ legs_end c.args.copies.now l.read c.args.vcpus l.earlier c.args.legs (left l.lines) c.loop-earlier-test.false)
    ∙ rw over refl

pub returns-else-is_empty : goal.returns-else-is_empty
returns-else-is_empty c =
    let l = c.loop-earlier in
    let some : 0 < length l.lines.rest.now = above_zero (length l.lines.rest.now) (sym c.is_empty.ensures ∙ c.if-is_empty.false) in
    let over : is_over (parts l.lines.rest.now) ≡ false = not_over l.lines.rest.now some in
    trace_by c.args.legs c.args.copies.now c.args.vcpus c.args.report.now (Ok (l.read, left l.lines)) (l.invariant
    ∙ legs_end c.args.copies.now l.read c.args.vcpus l.earlier c.args.legs (left l.lines) c.loop-earlier-test.false)
    ∙ rw over refl
