use Rattle.std.proofs.Common.{ℕ}
use Rattle.std.specs.FinMap.{entries}
use Rattle.its_types.specs.Maps.{events_at}
use Rattle.its_types.specs.declared.translation.Device.{Device}
use Rattle.owned_machine.proofs.Walking.{IsOnTheWay}
use Rattle.owned_machine.specs.Stale.{some_leads}
use Rattle.owned_machine.proofs.stale.add_led_to.Given as goal

-- the events of those that aren't left are added
abbrev pub invariant-loop-dev : goal.invariant-loop-dev
invariant-loop-dev l = record {
  can_next : (goal.iterator-loop-dev).can_next l.dev-iterator;
  is_finite : (goal.iterator-loop-dev).is_finite l.dev-iterator;
  way : IsOnTheWay l.parts (λ (d : ℕ × Device). some_leads l.maps.maps (events_at l.maps.maps d.0)) l.dev-iterator (entries l.fn.maps.maps.devices) l.fn.sets
      l.sets;
}
