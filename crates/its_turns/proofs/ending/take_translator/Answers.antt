use Rattle.std.proofs.Common.{ap, sym, ◌∙◌}
use mathlib.Core.Option.{some}
use Rattle.its_turns.proofs.Ended.{no_maps}
use Rattle.its_turns.specs.declared.value.Value.{Value}
use Rattle.its_turns.proofs.ending.take_translator.Goals as goal

pub unreachable-requires : goal.unreachable-requires
unreachable-requires c = no_maps c.args.its _ c.take_part.result c.take_part.ensures.value c.requires.there c.in_default.not-Maps

pub returns-clause-translator : goal.returns-clause-translator
returns-clause-translator c = (
  c.in-Maps.translator,
  c.take_part.ensures.value ∙ ap (λ (x : Value). some x) c.in-Maps.is,
  sym c.into_inner.ensures,
)
