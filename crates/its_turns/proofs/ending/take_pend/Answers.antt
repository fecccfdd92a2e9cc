use Rattle.std.proofs.Common.{ap, ◌∙◌}
use mathlib.Core.Option.{some}
use Rattle.its_turns.proofs.Ended.{no_pend}
use Rattle.its_turns.specs.declared.value.Value.{Value}
use Rattle.its_turns.proofs.ending.take_pend.Goals as goal

pub unreachable-requires : goal.unreachable-requires
unreachable-requires c = no_pend c.args.part _ c.take_part.result c.take_part.ensures.value c.requires.there c.in_default.not-Pend

pub returns-clause-pend : goal.returns-clause-pend
returns-clause-pend c = c.take_part.ensures.value ∙ ap (λ (x : Value). some x) c.in-Pend.is
