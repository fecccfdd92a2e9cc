use Rattle.std.proofs.lemmas.List.Sorted.{IsNonDecreasingBy-from_sort}
use Rattle.table_save.proofs.edges.Edges.set.Goals as goal

pub invariant_of-self : goal.invariant_of-self
invariant_of-self c = (
  IsNonDecreasingBy-from_sort (λ x. x) _ c.sort_unstable.ensures.sorted,
  IsNonDecreasingBy-from_sort
      (λ x. x) _ c.sort_unstable-2.ensures.sorted,
)
