use Rattle.std.proofs.Common.{ℕ, ◌+◌, ◌∷◌, [], ◌++◌, List, length, refl, ap, ◌∙◌, arith}
use Rattle.std.proofs.lemmas.List.{length-append}
use Rattle.dirty_log.specs.Stretches.{numbers, run}
use Rattle.dirty_log.proofs.Stretched.{run_more, joined, length-run}
use Rattle.dirty_log.proofs.stretch.follow.Goals as goal

pub returns-then-number-last-clause-numbers : goal.returns-then-number-last-clause-numbers
returns-then-number-last-clause-numbers c =
    let before = numbers c.args.stretches.now.items in
    ap (λ (l : List ℕ). numbers c.args.stretches.now.items ++ l)
    (run_more c.args.last (record { first = c.args.last.first; end = c.args.number + 1; place = c.args.last.place }) c.args.number c.requires.order
    c.if-number-last.true refl refl)
    ∙ joined before (run c.args.last) (c.args.number ∷ [])

pub returns-clause-place : goal.returns-clause-place
returns-clause-place c =
    let before = numbers c.args.stretches.now.items in
    let now = ap length c.in_ok-close.ensures.numbers in
    omega (arith, now, length-append before (run c.args.last), length-run c.args.last, c.requires.at, c.requires.place)
