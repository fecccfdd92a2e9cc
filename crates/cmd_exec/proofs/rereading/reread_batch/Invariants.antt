use Rattle.std.proofs.Common.{◌≡◌}
use Rattle.its_plain.specs.Commands.{conf_all_reread_at}
use Rattle.cmd_exec.specs.InHand.{confs_changed}
use Rattle.cmd_exec.specs.Reloaded.{numbers}
use Rattle.cmd_exec.specs.LastRead.{IsReadOf}
use Rattle.cmd_exec.proofs.rereading.reread_batch.Given as goal

abbrev pub invariant-loop-vcpu : goal.invariant-loop-vcpu
invariant-loop-vcpu l = record {
  read : l.redists ≡ confs_changed l.vcpu (conf_all_reread_at l.memory (numbers l.intids)) l.initial.redists;
  last : IsReadOf l.memory l.intids l.last;
}
