use Rattle.std.proofs.Common.{◌≡◌, ℕ, List, length, take, get_or, [], refl, ap, sym, subst, ◌∙◌, arith}
use Rattle.its_history.specs.declared.trace.EntryLine.{EntryLine}
use Rattle.its_history.specs.declared.trace.Leg.{Leg as LegLines}
use Rattle.report_places.specs.Reached.{Follows}
use Rattle.report_places.proofs.Reaches.{Passing, none_there, passing_none, passing_more, none_here, some_here}
use Rattle.report_places.proofs.place.go_to.Goals as goal

pub returns-then-leg-told : goal.returns-then-leg-told
returns-then-leg-told c = none_there c.args.machine.now c.args.legs.now c.args.told.now c.args.leg c.args.place c.if-leg-told.true

pub loop-index-init : goal.loop-index-init
loop-index-init c = passing_none c.args.machine.now c.args.legs.now c.args.told.now

pub loop-index-preserved : goal.loop-index-preserved
loop-index-preserved c =
    let l = c.loop-index in
    passing_more c.args.machine.now c.args.legs.now c.args.told.now l.index l.machine l.invariant c.leg_at.result.now c.index-told-index.result
    c.leg_at.ensures
    (omega (arith, c.loop-index-test.true, c.if-leg-told.false)) c.index-told-index.is c.pass_over.new.machine
    (omega (arith, c.loop-index-test.true, c.if-leg-told.false)) c.in_ok-pass_over.ensures

pub returns-then-place-entries : goal.returns-then-place-entries
returns-then-place-entries c =
    let l = c.loop-index in let first = c.args.machine.now in let legs = c.args.legs.now in let told = c.args.told.now in
    let at : l.index ≡ c.args.leg = omega (arith, c.loop-index-test.false, c.loop-index.auto.index-end) in
    none_here first legs told c.args.leg l.machine (subst (λ (n : ℕ). Passing first legs told n l.machine) at l.invariant) (get_or legs c.args.leg [])
    c.index-told-leg.result refl c.if-leg-told.false c.index-told-leg.is c.args.place
    (omega (arith, c.if-place-entries.true, ap length c.as_slice-entries.ensures, ap (λ (t : LegLines). length t.entries) c.index-told-leg.is))

pub returns : goal.returns
returns c =
    let l = c.loop-index in let first = c.args.machine.now in let legs = c.args.legs.now in let told = c.args.told.now in
    let w = c.follow.new.machine in
    let at : l.index ≡ c.args.leg = omega (arith, c.loop-index-test.false, c.loop-index.auto.index-end) in
    some_here first legs told c.args.leg l.machine (subst (λ (n : ℕ). Passing first legs told n l.machine) at l.invariant) c.leg_at-2.result.now
    c.index-told-leg.result c.leg_at-2.ensures c.if-leg-told.false c.index-told-leg.is c.args.place w
    (omega (arith, c.if-place-entries.false, ap length c.as_slice-entries.ensures, ap (λ (t : LegLines). length t.entries) c.index-told-leg.is))
    (subst (λ (es : List EntryLine). Follows l.machine c.leg_at-2.result.now (take c.args.place es) w)
    (c.as_slice-entries.ensures ∙ ap (λ (t : LegLines). t.entries) (sym c.index-told-leg.is)) c.in_ok-follow.ensures)
