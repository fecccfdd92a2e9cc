use Rattle.std.proofs.Common.{◌≡◌, ◌++◌}
use Rattle.std.specs.FinMap.{entries}
use Rattle.its_explain.specs.Watched.{devices_answers}
use Rattle.its_explain.proofs.watch.Watch.watch_devices.Given as goal

-- with those that are left it is all
abbrev pub invariant-loop-dev : goal.invariant-loop-dev
invariant-loop-dev l =
    record {
      its : l.self.its ≡ l.initial.self.its;
      answers : l.self.answers.items ++ devices_answers l.maps.maps l.dev-iterator ≡ l.initial.self.answers.items ++ devices_answers l.maps.maps (entries l.maps.maps.devices);
    }
