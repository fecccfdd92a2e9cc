use Rattle.std.proofs.Common.{ℕ, rules}
use Rattle.std.proofs.lemmas.List.Sorted.{IsNonDecreasingBy-from_sort_by_key}
use Rattle.its_history.specs.declared.trace.EntryLine.{EntryLine}
use Rattle.its_history.proofs.threads.by_place.Goals as goal

pub returns-clause-rises : goal.returns-clause-rises
returns-clause-rises c =
    let by_place : EntryLine → ℕ = λ l. l.place in
    IsNonDecreasingBy-from_sort_by_key by_place _ c.in_ok-sort_by_key.ensures.sorted (λ a r q k. search rules)
