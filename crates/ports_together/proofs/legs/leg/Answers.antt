use Rattle.std.proofs.Common.{arith, ◌≡◌, ◌++◌, ◌∷◌, [], sym, ap, ◌∙◌, subst}
use Rattle.its_plain.specs.Runs.{Phase, Leg}
use Rattle.ports_together.specs.Legs.{IsSmallLeg}
use Rattle.ports_together.proofs.Repeated.{small_leg}
use Rattle.ports_together.proofs.legs.leg.Goals as goal

added : (x y : Leg) (phase : Phase) (phases : Leg) → y ≡ x ++ phase ∷ [] → x ≡ phases → y ≡ phases ++ phase ∷ []
added x y phase phases e is = e ∙ ap (λ z. z ++ phase ∷ []) is

pub returns : goal.returns
returns c =
    let first = c.in_ok-beside.field-0 in let second = c.in_ok-beside-2.field-0 in
    let both : c.push-2.new.self.items ≡ first ∷ second ∷ [] =
    added c.push.new.self.items c.push-2.new.self.items second (first ∷ []) c.in_ok-push-2.ensures.items
    (added c.new-phases.result.items c.push.new.self.items first [] c.in_ok-push.ensures.items c.new-phases.ensures.items) in
    subst IsSmallLeg (sym both)
    (small_leg _ _ first second (λ m translators vcpus. (omega (arith, translators), omega (arith, vcpus)))
    c.in_ok-beside.ensures.threads c.in_ok-beside.ensures.calls c.in_ok-beside-2.ensures.threads c.in_ok-beside-2.ensures.calls)
