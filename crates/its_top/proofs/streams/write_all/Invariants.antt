use Rattle.std.proofs.Common.{◌≤◌, ◌-◌, ◌≡◌, length, take}
use Rattle.its_io.specs.Bytes.{Appends}
use Rattle.its_top.proofs.streams.write_all.Given as goal

abbrev pub invariant-loop-at : goal.invariant-loop-at
invariant-loop-at g l = record {
  appended : Appends (g.K.Sink.held l.initial.sink) (g.K.Sink.held l.sink) (take l.at l.text);
  same : g.K.Sink.faults l.sink ≡ g.K.Sink.faults l.initial.sink;
  within : l.at ≤ length l.text;
}

abbrev pub decreases-loop-at : goal.decreases-loop-at
decreases-loop-at g l = length l.text - l.at
