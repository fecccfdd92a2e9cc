use Rattle.std.proofs.Common.{◌≡◌, ◌++◌}
use Rattle.its_history.specs.Merged.{thread_lines, list_lines}
use Rattle.its_history.proofs.threads.push_list.Given as goal

abbrev pub invariant-loop-call : goal.invariant-loop-call
invariant-loop-call l = l.lines.items ++ thread_lines l.list.phase l.list.thread l.call-iterator.a l.call-iterator.b.rest.now ≡ l.initial.lines.items
    ++ list_lines l.list
