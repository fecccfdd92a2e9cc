use Rattle.std.proofs.Common.{◌≡◌, [], ◌∷◌}
use Rattle.its_plain.specs.Commands.{conf_all_reread_at}
use Rattle.cmd_exec.specs.InHand.{confs_changed}
use Rattle.cmd_exec.proofs.lpis.reread_each.Given as goal

abbrev pub invariant-loop-vcpu : goal.invariant-loop-vcpu
invariant-loop-vcpu l = l.redists ≡ confs_changed l.vcpu (conf_all_reread_at l.memory (l.intid.0 ∷ [])) l.initial.redists
