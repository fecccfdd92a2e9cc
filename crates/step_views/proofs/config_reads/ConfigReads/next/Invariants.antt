use Rattle.std.proofs.Common.{◌≡◌, ◌-◌}
use Rattle.step_views.specs.ConfigReads.{left_of, AreReadable}
use Rattle.step_views.proofs.config_reads.ConfigReads.next.Given as goal

-- none of those that were passed is read
abbrev pub invariant-loop-self : goal.invariant-loop-self
invariant-loop-self l = record {
  readable : AreReadable l.self-inside.redists.now l.self-inside.offset l.self-inside.firsts l.self-inside.next l.self-inside.end;
  left : left_of l.self-inside.redists.now l.self-inside.offset l.self-inside.length l.self-inside.next l.self-inside.end ≡ l.fn.self;
}

abbrev pub decreases-loop-self : goal.decreases-loop-self
decreases-loop-self l = l.self-inside.end - l.self-inside.next
