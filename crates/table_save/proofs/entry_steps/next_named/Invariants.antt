use Rattle.std.proofs.Common.{◌≡◌, ◌≤◌, ◌<◌, ◌-◌, ℕ, false}
use Rattle.table_save.specs.EntriesLeft.{awaits}
use Rattle.table_save.proofs.entry_steps.next_named.Given as goal

abbrev pub invariant-loop-icid : goal.invariant-loop-icid
invariant-loop-icid l = record {
  least : l.from ≤ l.at;
  most : l.at ≤ 65536;
  before : (n : ℕ) → l.from ≤ n → n < l.at → awaits l.maps.maps l.places n ≡ false;
}

abbrev pub decreases-loop-icid : goal.decreases-loop-icid
decreases-loop-icid l = 65536 - l.at
