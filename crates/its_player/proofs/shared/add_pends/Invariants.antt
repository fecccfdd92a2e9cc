use Rattle.std.proofs.Common.{◌≡◌, ◌++◌, map, drop, Some}
use Rattle.its_plain.specs.Plain.{pend_of}
use Rattle.its_player.specs.declared.content.Content.TheVariants.{Pend}
use Rattle.its_player.proofs.shared.add_pends.Given as goal

abbrev pub invariant-loop-redist : goal.invariant-loop-redist
invariant-loop-redist l = l.initial.slots.items ++ map (λ r. Some (Pend (pend_of r))) l.redists ≡ l.slots.items ++ map (λ r. Some (Pend (pend_of r)))
    (drop l.redist-index l.redists)
