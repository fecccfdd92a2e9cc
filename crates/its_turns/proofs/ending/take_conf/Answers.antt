use Rattle.std.proofs.Common.{ap, ◌∙◌}
use mathlib.Core.Option.{some}
use Rattle.its_turns.proofs.Ended.{no_conf}
use Rattle.its_turns.specs.declared.value.Value.{Value}
use Rattle.its_turns.proofs.ending.take_conf.Goals as goal

pub unreachable-requires : goal.unreachable-requires
unreachable-requires c = no_conf c.args.part _ c.take_part.result c.take_part.ensures.value c.requires.there c.in_default.not-Conf

pub returns-clause-conf : goal.returns-clause-conf
returns-clause-conf c = c.take_part.ensures.value ∙ ap (λ (x : Value). some x) c.in-Conf.is
