use Rattle.std.proofs.Common.{◌≡◌, ◌-◌, ◌≤◌, take, length}
use Rattle.dirty_log.specs.Copies.{copied}
use Rattle.dirty_log.specs.Stretches.{numbers, paged}
use Rattle.dirty_log.proofs.log.copy_marked.Given as goal

abbrev pub invariant-loop-place : goal.invariant-loop-place
invariant-loop-place l = record {
  inside : l.at ≤ length l.marks;
  copied : l.copy ≡ copied l.memory (take l.at (paged (numbers l.stretches) l.marks)) l.fn.copy;
}

abbrev pub decreases-loop-place : goal.decreases-loop-place
decreases-loop-place l = length l.marks - l.at
