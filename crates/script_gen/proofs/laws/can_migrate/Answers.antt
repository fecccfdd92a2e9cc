-- Each call keeps what the first state has, so the state after all of them can be saved.
use Rattle.its_plain.specs.History.{after}
use Rattle.script_gen.specs.Generated.{first_leg}
use Rattle.script_gen.proofs.Calls.{history_kept}
use Rattle.script_gen.proofs.Given.{leg_given}
use Rattle.script_gen.proofs.Histories.{of_leg}
use Rattle.script_gen.proofs.Invariant.{IsGiven}
use Rattle.script_gen.proofs.Savable.{savable_kept}
use Rattle.script_gen.proofs.Start.{first_kept}
use Rattle.script_gen.proofs.laws.can_migrate.Goals as goal

pub returns : goal.returns
returns c signals threads asked first h starts run =
    let given = of_leg (IsGiven threads) 1 (first_leg signals threads) h run.calls (leg_given signals threads asked.some_threads asked.most_threads) in
    savable_kept threads (after first h) asked.most_threads (history_kept threads first h (first_kept threads first starts) given)
