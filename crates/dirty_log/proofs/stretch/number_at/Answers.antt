use Rattle.std.proofs.Common.{sym, arith}
use Rattle.dirty_log.specs.declared.stretch.Stretch.{Stretch}
use Rattle.dirty_log.proofs.Stretched.{stretch_at}
use Rattle.dirty_log.proofs.stretch.number_at.Goals as goal

abbrev none : Stretch
none = record { first = 0; end = 0; place = 0 }

pub overflow_sub-place : goal.overflow_sub-place
overflow_sub-place c =
    let l = c.loop-at in
    let h = stretch_at c.args.stretches.now l.at none c.requires.laid c.loop-at-test.true in
    let e = h.place in
    omega (arith, e, l.invariant)

pub overflow_sub-end : goal.overflow_sub-end
overflow_sub-end c =
    let h = stretch_at c.args.stretches.now c.loop-at.at none c.requires.laid c.loop-at-test.true in
    let e = h.some in
    omega (arith, e)

pub overflow_sub-result : goal.overflow_sub-result
overflow_sub-result c =
    let l = c.loop-at in
    let h = stretch_at c.args.stretches.now l.at none c.requires.laid c.loop-at-test.true in
    let e = h.place in
    omega (arith, e, l.invariant)

pub returns-then-place-start : goal.returns-then-place-start
returns-then-place-start c =
    let l = c.loop-at in
    let h = stretch_at c.args.stretches.now l.at none c.requires.laid c.loop-at-test.true in
    let e = h.place in
    sym (h.is c.args.place (omega (arith, e, l.invariant)) (omega (arith, e, l.invariant, c.if-place-start.true)))

pub loop-at-preserved : goal.loop-at-preserved
loop-at-preserved c =
    let l = c.loop-at in
    let h = stretch_at c.args.stretches.now l.at none c.requires.laid c.loop-at-test.true in
    let e = h.place in
    let next = h.next in
    omega (arith, e, next, l.invariant, c.if-place-start.false)
