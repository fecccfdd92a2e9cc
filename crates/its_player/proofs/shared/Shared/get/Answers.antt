use Rattle.std.proofs.Common.{ℕ, ◌+◌, inl, sym, ap, ◌∙◌, arith, get_or}
use Rattle.its_player.specs.Shared.{setup_of}
use Rattle.its_player.proofs.Slots.{gets_none, gets_some}
use Rattle.its_player.proofs.shared.Shared.get.Goals as goal

pub returns-in_default-clause-gets : goal.returns-in_default-clause-gets
returns-in_default-clause-gets c = λ v at p. gets_none c.args.self.now c.args.at v c.args.part c.args.index c.index.result.now c.requires.index c.index.ensures
    c.in_default.is

pub returns-clause-gets : goal.returns-clause-gets
returns-clause-gets c = λ v at p. inl (gets_some c.args.self.now c.args.at c.index_mut-view.result.now c.get.new.self v c.args.part c.args.index
    c.index.result.now c.in-Some.content c.in_ok-owed.owed (c.from.result + 1)
    c.requires.index (ap (λ (j : ℕ). get_or c.args.self.now.turns.items j 0) (sym c.requires.index.is) ∙ c.requires.free) c.index.ensures c.in-Some.is
    c.in_ok-owed.ensures
    c.requires.at c.index_mut-view.ensures.value at p (omega (arith, c.from.ensures)) (c.in_ok-get.ensures (setup_of c.args.self.now)))
