use Rattle.std.proofs.Common.{◌≡◌, ◌≤◌, ◌+◌, ◌-◌, ◌^◌, length}
use Rattle.its_maps.specs.Walks.{events_left}
use Rattle.its_types.specs.Maps.{events_at}
use Rattle.its_explain.specs.Looks.{as_many}
use Rattle.its_explain.proofs.mapped.count_events_of.Given as goal

-- with those that are left it is all
abbrev pub invariant-loop-ev : goal.invariant-loop-ev
invariant-loop-ev l =
    record {
      fits : l.count ≤ 2 ^ 64 - 1;
      all : as_many (l.count + length (events_left l._ev-iterator)) ≡ as_many (length (events_at l.maps.maps l.fn.dev.0));
    }
