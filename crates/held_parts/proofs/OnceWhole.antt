-- The maps of a machine's translators, before anything else is taken.
use Rattle.std.proofs.Common.{◌≡◌, List, [], ◌∷◌, Option, Some, None, sym, subst}
use Rattle.owned_parts.specs.declared.parts.Translator.{Translator as InHand}
use Rattle.its_steps.specs.Contents.{Held}
use Rattle.held_parts.specs.Redists.{AreBeforeConfs, AreBeforePends}
use Rattle.held_parts.specs.Wholes.{maps_held, second_held}

before_confs : (o : Option InHand) (first : InHand) → AreBeforeConfs (second_held o (maps_held 0 first ∷ []))
before_confs None first vcpu = (tt, tt)
before_confs (Some t) first vcpu = (tt, (tt, tt))

before_pends : (o : Option InHand) (first : InHand) → AreBeforePends (second_held o (maps_held 0 first ∷ []))
before_pends None first vcpu = (tt, tt)
before_pends (Some t) first vcpu = (tt, (tt, tt))

pub maps_before_confs : (o : Option InHand) (first : InHand) (held : List Held) → held ≡ second_held o (maps_held 0 first ∷ []) → AreBeforeConfs held
maps_before_confs o first held e = subst AreBeforeConfs (sym e) (before_confs o first)

pub maps_before_pends : (o : Option InHand) (first : InHand) (held : List Held) → held ≡ second_held o (maps_held 0 first ∷ []) → AreBeforePends held
maps_before_pends o first held e = subst AreBeforePends (sym e) (before_pends o first)
