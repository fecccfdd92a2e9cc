use Rattle.std.proofs.Common.{◌≡◌, ◌≤◌, ◌+◌, ◌-◌, ◌^◌, length}
use Rattle.std.specs.FinMap.{entries}
use Rattle.its_explain.specs.Looks.{as_many}
use Rattle.its_explain.proofs.mapped.count_collections.Given as goal

-- with those that are left it is all
abbrev pub invariant-loop-icid : goal.invariant-loop-icid
invariant-loop-icid l =
    record {
      fits : l.count ≤ 2 ^ 64 - 1;
      all : as_many (l.count + length l._icid-iterator) ≡ as_many (length (entries l.maps.maps.collections));
    }
