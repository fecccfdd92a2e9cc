use Rattle.std.proofs.Common.{ap, sym, ◌∙◌}
use mathlib.Core.Option.{some}
use Rattle.its_turns.proofs.Ended.{no_mem}
use Rattle.its_turns.specs.declared.value.Value.{Value}
use Rattle.its_turns.proofs.ending.take_memory.Goals as goal

pub unreachable-requires : goal.unreachable-requires
unreachable-requires c = no_mem c.args.part _ c.take_part.result c.take_part.ensures.value c.requires.there c.in_default.not-Mem

pub returns-clause-memory : goal.returns-clause-memory
returns-clause-memory c = (
  c.in-Mem.memory,
  c.take_part.ensures.value ∙ ap (λ (x : Value). some x) c.in-Mem.is,
  sym c.into_inner.ensures,
)
