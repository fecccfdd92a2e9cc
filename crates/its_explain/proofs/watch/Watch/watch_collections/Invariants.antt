use Rattle.std.proofs.Common.{◌≡◌, ◌++◌}
use Rattle.std.specs.FinMap.{entries}
use Rattle.its_explain.specs.Watched.{collections_answers}
use Rattle.its_explain.proofs.watch.Watch.watch_collections.Given as goal

-- with those that are left it is all
abbrev pub invariant-loop-icid : goal.invariant-loop-icid
invariant-loop-icid l =
    record {
      its : l.self.its ≡ l.initial.self.its;
      answers : l.self.answers.items ++ collections_answers l.maps.maps l.icid-iterator ≡ l.initial.self.answers.items ++ collections_answers l.maps.maps (entries l.maps.maps.collections);
    }
