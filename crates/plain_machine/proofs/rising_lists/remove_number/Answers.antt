use Rattle.std.proofs.Common.{rules, tests, ◌==◌}
use Rattle.std.specs.Prelude.{not}
use Rattle.plain_machine.proofs.Rising.{filtered}
use Rattle.plain_machine.proofs.rising_lists.remove_number.Goals as goal

pub returns : goal.returns
returns c = filtered _ (λ x. not (x == c.args.number)) _ (λ x b q k. search (rules, tests)) _ _ c.retain.ensures.filtered
