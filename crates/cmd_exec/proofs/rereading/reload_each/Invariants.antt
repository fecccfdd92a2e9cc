use Rattle.std.proofs.Common.{◌≡◌, drop}
use Rattle.cmd_exec.specs.InHand.{conf_by}
use Rattle.cmd_exec.specs.Reloaded.{reloaded}
use Rattle.cmd_exec.proofs.rereading.reload_each.Given as goal

abbrev pub invariant-loop-at : goal.invariant-loop-at
invariant-loop-at l = record {
  rest : conf_by (reloaded (drop l.at l.intids) (drop l.at l.bytes)) l.conf ≡ conf_by (reloaded l.intids l.bytes) l.initial.conf;
  bits : l.conf.config.lpi_bits ≡ l.initial.conf.config.lpi_bits;
  bases : l.conf.bases ≡ l.initial.conf.bases;
}
