use Rattle.std.proofs.Common.{◌≡◌, length}
use Rattle.std.specs.List.{AllByRecursion}
use Rattle.ports_together.proofs.legs.beside.Given as goal

abbrev pub invariant-loop : goal.invariant-loop
invariant-loop l = record {
  threads : length l.phase ≡ l.counter;
  calls : AllByRecursion (λ calls. AllByRecursion (λ c. c ≡ l.call) calls) l.phase;
}
