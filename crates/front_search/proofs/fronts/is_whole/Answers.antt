use Rattle.std.proofs.Common.{refl, arith}
use Rattle.front_search.proofs.Trails.{whole_all}
use Rattle.front_search.proofs.fronts.is_whole.Goals as goal

pub returns : goal.returns
returns c = (λ e. whole_all c.args.threads.now c.args.front.now c.loop-thread.thread (omega arith) c.loop-thread.invariant, λ w. refl)
