use Rattle.std.proofs.Common.{rules, tests, ◌==◌}
use Rattle.std.specs.Prelude.{not}
use Rattle.plain_machine.proofs.Rising.{filtered}
use Rattle.plain_machine.proofs.tables.remove_events.Goals as goal

pub returns : goal.returns
returns g c = filtered _ (λ e. not (e.0.0 == c.args.dev)) _ (λ x b q k. search (rules, tests)) _ _ c.retain.ensures.filtered
