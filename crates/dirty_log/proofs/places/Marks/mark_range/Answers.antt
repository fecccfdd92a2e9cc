use Rattle.std.proofs.Common.{◌≡◌, ℕ, false, get_or, ap, ◌∙◌, arith}
use Rattle.std.specs.Prelude.{◌||◌, ◌&&◌, nat_le, nat_lt}
use Rattle.dirty_log.proofs.places.Marks.mark_range.Goals as goal

pub returns-clause-each : goal.returns-clause-each
returns-clause-each c k lt =
    let l = c.loop-at in
    let le = l.auto.at-end c.requires.order in
    let e : l.at ≡ c.args.to = omega (arith, le, c.loop-at-test.false) in
    l.invariant.each k lt ∙ ap (λ (n : ℕ). get_or c.args.self.now k false || (nat_le c.args.from k && nat_lt k n)) e
