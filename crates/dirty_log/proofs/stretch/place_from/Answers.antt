use Rattle.std.proofs.Common.{◌≡◌, ℕ, ◌+◌, ◌-◌, get_or, inl, inr, arith}
use Rattle.std.proofs.lemmas.Bool.{cases_lt}
use Rattle.dirty_log.specs.Stretches.{numbers}
use Rattle.dirty_log.specs.declared.stretch.Stretch.{Stretch}
use Rattle.dirty_log.proofs.Stretched.{stretch_at, rises_to}
use Rattle.dirty_log.proofs.stretch.place_from.Goals as goal

abbrev none : Stretch
none = record { first = 0; end = 0; place = 0 }

pub overflow_add-result : goal.overflow_add-result
overflow_add-result c =
    let h = stretch_at c.args.stretches.now c.loop-at.at none c.requires.laid c.loop-at-test.true in
    let fits = h.fits in
    omega (arith, fits, c.requires.all, c.saturating_sub.ensures, c.if-number-end.true, c.ranges.places.fits, h.some)

pub returns-then-number-end-clause-inside : goal.returns-then-number-end-clause-inside
returns-then-number-end-clause-inside c =
    let h = stretch_at c.args.stretches.now c.loop-at.at none c.requires.laid c.loop-at-test.true in
    let fits = h.fits in
    omega (arith, fits, c.requires.all, c.saturating_sub.ensures, c.if-number-end.true, h.some)

pub returns-then-number-end-clause-before : goal.returns-then-number-end-clause-before
returns-then-number-end-clause-before c k lt =
    let l = c.loop-at in
    let h = stretch_at c.args.stretches.now l.at none c.requires.laid c.loop-at-test.true in
    let place = h.place in
    elim (cases_lt k (get_or c.args.stretches.now l.at none).place) [
      | inl low ↦ l.invariant k (omega (arith, place, low))
      | inr high ↦
          let is = h.is k high (omega (arith, lt, c.saturating_sub.ensures, c.if-number-end.true, h.some)) in
          omega (arith, is, high, lt, c.saturating_sub.ensures)
    ]

pub returns-then-number-end-clause-after : goal.returns-then-number-end-clause-after
returns-then-number-end-clause-after c k low lt =
    let l = c.loop-at in
    let ss = c.args.stretches.now in
    let s = get_or c.args.stretches.now c.loop-at.at none in
    let h = stretch_at c.args.stretches.now l.at none c.requires.laid c.loop-at-test.true in
    let start : ℕ = (get_or c.args.stretches.now c.loop-at.at none).place + c.saturating_sub.result in
    let is : get_or (numbers ss) start 0 ≡ s.first + (start - s.place) = h.is start (omega arith)
    (omega (arith, c.saturating_sub.ensures, c.if-number-end.true, h.some)) in
    let up = rises_to (numbers ss) start k c.requires.rise low (omega (arith, lt, c.requires.all)) in
    omega (arith, is, up, c.saturating_sub.ensures)

pub loop-at-preserved : goal.loop-at-preserved
loop-at-preserved c k lt =
    let l = c.loop-at in
    let h = stretch_at c.args.stretches.now l.at none c.requires.laid c.loop-at-test.true in
    let place = h.place in
    let next = h.next in
    elim (cases_lt k (get_or c.args.stretches.now l.at none).place) [
      | inl low ↦ l.invariant k (omega (arith, place, low))
      | inr high ↦
          let is = h.is k high (omega (arith, lt, next)) in
          omega (arith, is, high, lt, next, c.if-number-end.false)
    ]
