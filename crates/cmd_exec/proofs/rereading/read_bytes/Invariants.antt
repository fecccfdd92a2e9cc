use Rattle.std.proofs.Common.{◌≡◌, take, length}
use Rattle.cmd_exec.specs.Reloaded.{bytes_of}
use Rattle.cmd_exec.proofs.rereading.read_bytes.Given as goal

abbrev pub invariant-loop-at : goal.invariant-loop-at
invariant-loop-at l = record {
  read : take l.at l.bytes ≡ bytes_of l.memory l.table.0 (take l.at l.intids);
  size : length l.bytes ≡ 64;
}
