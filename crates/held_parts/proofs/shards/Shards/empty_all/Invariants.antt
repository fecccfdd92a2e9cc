use Rattle.std.proofs.Common.{◌≡◌, ◌≤◌, ◌<◌, ℕ}
use Rattle.held_parts.specs.Shards.{in_place, emptied}
use Rattle.held_parts.proofs.shards.Shards.empty_all.Given as goal

abbrev pub invariant-loop-number : goal.invariant-loop-number
invariant-loop-number l = record {
  done : (n : ℕ) → n < l.number → in_place l.self n ≡ emptied (in_place l.fn.self n);
  rest : (n : ℕ) → l.number ≤ n → in_place l.self n ≡ in_place l.fn.self n;
}
