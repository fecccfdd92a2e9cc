use Rattle.std.proofs.Common.{refl, vec_len}
use Rattle.front_search.proofs.States.{popped}
use Rattle.front_search.proofs.trail.Search.take_last.Goals as goal

pub returns : goal.returns
returns g c =
    popped (vec_len c.args.self.now.path) c.args.self.now (record c.args.self.now { path = c.pop.new.self }) c.pop.result c.pop.ensures.items
    c.pop.ensures.rest (λ e. (rw e at c.pop.ensures.cases).0) refl refl refl refl
