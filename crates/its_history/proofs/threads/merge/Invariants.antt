use Rattle.std.proofs.Common.{◌≡◌, take}
use Rattle.its_history.specs.Merged.{all_lines}
use Rattle.its_history.proofs.threads.merge.Given as goal

abbrev pub invariant-loop-list : goal.invariant-loop-list
invariant-loop-list l = l.lines.items ≡ all_lines (take l.list-index l.lists)
