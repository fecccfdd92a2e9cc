use Rattle.std.proofs.Common.{rules, tests}
use Rattle.std.specs.Prelude.{not}
use Rattle.its_types.specs.Maps.{is_pair}
use Rattle.plain_machine.proofs.Rising.{filtered}
use Rattle.plain_machine.proofs.tables.remove_event.Goals as goal

pub returns : goal.returns
returns g c = filtered _ (λ e. not (is_pair c.args.dev c.args.ev e.0)) _ (λ x b q k. search (rules, tests)) _ _ c.retain.ensures.filtered
