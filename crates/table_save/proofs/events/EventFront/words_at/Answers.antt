use Rattle.std.proofs.Common.{◌≡◌, ℕ, ◌+◌, length, subst, arith}
use Rattle.table_save.specs.Pass.{PassedEvents}
use Rattle.table_save.proofs.events.EventFront.words_at.Goals as goal

pub returns-clause-rest : goal.returns-clause-rest
returns-clause-rest c =
    let v = c.loop-done.invariant in
    let end : c.loop-done.done ≡ length c.args.words.now = omega (arith, c.loop-done-test.false, v.within, v.size) in
    subst (λ (n : ℕ). PassedEvents (c.args.id + n) c.args.self.now c.loop-done.self) end v.passed
