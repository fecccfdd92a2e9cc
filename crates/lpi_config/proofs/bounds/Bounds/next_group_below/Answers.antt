use Rattle.std.proofs.Common.{ℕ, List, length, get_or, ltb, subst, arith}
use Rattle.lpi_config.specs.Searches.{FirstIn}
use Rattle.lpi_config.proofs.LeastPriorities.{groups_below}
use Rattle.lpi_config.proofs.bounds.Bounds.next_group_below.Goals as goal

pub returns : goal.returns
returns c =
    let i = c.self.inside in
    let found : FirstIn (λ k. ltb (get_or i.groups.items k 0) c.args.limit) c.args.from (length i.groups.items) c.next_below.result =
    subst (λ (xs : List ℕ). FirstIn (λ k. ltb (get_or xs k 0) c.args.limit) c.args.from (length xs) c.next_below.result) c.deref.ensures.value
    c.next_below.ensures in
    rw (← c.self.view_is) (groups_below i.groups.items i.words.items c.args.limit c.args.from c.next_below.result c.self.invariant (omega arith) found)
