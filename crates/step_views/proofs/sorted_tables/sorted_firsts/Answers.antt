use Rattle.std.proofs.lemmas.List.Sorted.{IsNonDecreasingBy-from_sort, Contains-permutation}
use Rattle.step_views.proofs.sorted_tables.sorted_firsts.Goals as goal

pub firsts_among-requires-clause-sorted : goal.firsts_among-requires-clause-sorted
firsts_among-requires-clause-sorted c = IsNonDecreasingBy-from_sort (λ x. x) c.sort_unstable.new.self c.sort_unstable.ensures.sorted

pub firsts_among-requires-clause-all : goal.firsts_among-requires-clause-all
firsts_among-requires-clause-all c =
    λ v conf below is. Contains-permutation _ _ _ c.sort_unstable.ensures.permutation (c.put_tables.ensures.all v conf below is)
