use Rattle.std.proofs.Common.{refl, sym, subst}
use Rattle.its_plain.specs.declared.fault.SaveError.{SaveError}
use Rattle.its_migrate.specs.Precopying.{IsLeftFor}
use Rattle.its_migrate.specs.declared.outcome.Precopy.TheVariants as precopy
use Rattle.its_migrate.specs.declared.outcome.Untracked.{Untracked}
use Rattle.its_migrate.proofs.precopying.left.Goals as goal

pub returns-in-NoMemory : goal.returns-in-NoMemory
returns-in-NoMemory c =
    let left : Untracked = record { parts = c.closed-parts.result } in
    subst (λ (e : SaveError). IsLeftFor c.args.machine c.args.root e (precopy.NoMemory left)) (sym c.in-NoMemory.is)
    (left, refl, c.closed-parts.ensures)
