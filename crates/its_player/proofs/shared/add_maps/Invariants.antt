use Rattle.std.proofs.Common.{◌≡◌, ◌++◌, map, drop, Some}
use Rattle.its_player.specs.declared.content.Content.TheVariants.{Maps}
use Rattle.its_player.proofs.shared.add_maps.Given as goal

abbrev pub invariant-loop-translator : goal.invariant-loop-translator
invariant-loop-translator l = l.initial.slots.items ++ map (λ t. Some (Maps t)) l.translators ≡ l.slots.items ++ map (λ t. Some (Maps t))
    (drop l.translator-index l.translators)
