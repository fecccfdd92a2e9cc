use Rattle.std.proofs.Common.{◌≡◌, ◌++◌, map, drop, Some}
use Rattle.its_plain.specs.Plain.{conf_of}
use Rattle.its_player.specs.declared.content.Content.TheVariants.{Conf}
use Rattle.its_player.proofs.shared.add_confs.Given as goal

abbrev pub invariant-loop-redist : goal.invariant-loop-redist
invariant-loop-redist l = l.initial.slots.items ++ map (λ r. Some (Conf (conf_of r))) l.redists ≡ l.slots.items ++ map (λ r. Some (Conf (conf_of r)))
    (drop l.redist-index l.redists)
