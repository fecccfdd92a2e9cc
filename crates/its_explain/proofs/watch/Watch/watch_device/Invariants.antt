use Rattle.std.proofs.Common.{◌≡◌, ◌++◌, map}
use Rattle.its_maps.specs.Walks.{events_left}
use Rattle.its_types.specs.Maps.{events_at}
use Rattle.its_explain.specs.Watched.{event_watched}
use Rattle.its_explain.proofs.watch.Watch.watch_device.Given as goal

-- with those that are left it is all
abbrev pub invariant-loop-ev : goal.invariant-loop-ev
invariant-loop-ev l =
    record {
      its : l.self.its ≡ l.initial.self.its;
      answers : l.self.answers.items ++ map (event_watched l.maps.maps l.dev) (events_left l.ev-iterator) ≡ l.initial.self.answers.items ++ map (event_watched l.maps.maps l.dev) (events_at l.maps.maps l.dev.0);
    }
