use Rattle.std.proofs.Common.{subst}
use Rattle.its_plain.specs.declared.fault.SaveError.{SaveError}
use Rattle.its_migrate.specs.Resting.{IsCause, resting}
use Rattle.its_turns.specs.Machines.{setup, view}
use Rattle.its_top.proofs.Summaries.{can_be_saved}
use Rattle.its_top.proofs.summarize.count_leg.Goals as goal

pub only_memory-requires : goal.only_memory-requires
only_memory-requires g c fault e =
    let m = c.args.shared.machine in let root = c.count_calls.new.root in
    let refused = subst (λ (x : SaveError). IsCause (resting m root) x) e c.in-Err.ensures.3 in
    can_be_saved c.args.signals c.args.threads c.args.script.now c.requires.made (setup m) (view root).seen fault c.can_migrate.ensures c.requires.first
    c.in_ok-counts.ensures.run refused
