use Rattle.std.proofs.Common.{◌≡◌, length}
use Rattle.its_history.specs.Merged.{thread_lines}
use Rattle.script_gen.specs.Summary as spec
use Rattle.script_gen.proofs.counts.Counts.add_list.Given as goal

abbrev pub invariant-loop-call : goal.invariant-loop-call
invariant-loop-call l = record {
  room : spec.HasRoomFor (length (thread_lines l.list.phase l.list.thread l.call-iterator.a l.call-iterator.b.rest.now)) l.self;
  counts : spec.with_replies l.call-iterator.a l.call-iterator.b.rest.now l.self ≡ spec.with_replies l.list.calls.now l.list.replies l.initial.self;
}
