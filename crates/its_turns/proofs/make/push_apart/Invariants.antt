use Rattle.std.proofs.Common.{◌≡◌, ◌∷◌, ◌++◌, replicate}
use Rattle.its_turns.specs.declared.value.Value.TheVariants.{Vacant}
use Rattle.its_turns.proofs.make.push_apart.Given as goal

abbrev pub invariant-loop : goal.invariant-loop
invariant-loop l = l.slots.items ≡ l.fn.slots.items ++ l.fn.value ∷ replicate l.counter Vacant
