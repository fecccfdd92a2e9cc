use Rattle.std.proofs.Common.{◌≡◌, ℕ, ◌<◌, ◌≤◌, get_or}
use Rattle.lpi_config.specs.Bounds.{least_of_group}
use Rattle.lpi_config.proofs.bounds.put_groups.Given as goal

abbrev pub invariant-loop-at : goal.invariant-loop-at
invariant-loop-at l = record {
  anew : (k : ℕ) → k < l.at → get_or l.groups k 0 ≡ least_of_group l.words k;
  others : (k : ℕ) → l.at ≤ k → get_or l.groups k 0 ≡ get_or l.initial.groups k 0;
}
