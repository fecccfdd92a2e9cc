use Rattle.std.proofs.Common.{◌≡◌, take}
use Rattle.its_explain.specs.Watched.{changed_keys}
use Rattle.its_explain.proofs.watch.changed.Given as goal

-- as far as the loop has come
abbrev pub invariant-loop-watched : goal.invariant-loop-watched
invariant-loop-watched l = l.keys.items ≡ changed_keys l.maps.maps (take l.watched-index l.answers)
