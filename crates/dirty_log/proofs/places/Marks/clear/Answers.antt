use Rattle.std.proofs.Common.{ℕ, false, List, length, replicate, sym, ap, subst, ◌∙◌}
use Rattle.dirty_log.specs.Bits.{flags, IsCounted}
use Rattle.dirty_log.proofs.Flags.{length-flags, flags_zero, none_counted}
use Rattle.dirty_log.proofs.places.Marks.clear.Goals as goal

pub invariant_of-self : goal.invariant_of-self
invariant_of-self c =
    let i = c.self.inside in
    let kept = c.self.invariant in
    subst (λ (ws : List ℕ). IsCounted ws 0 c.self.inside.places) (sym c.clear.ensures) (none_counted (length i.bits) i.places kept.room kept.small)

pub returns : goal.returns
returns c =
    let i = c.self.inside in
    ap (λ (ws : List ℕ). flags ws c.self.inside.places) c.clear.ensures
    ∙ flags_zero (length i.bits) i.places
    ∙ ap (λ (n : ℕ). replicate n false) (sym (length-flags i.bits i.places) ∙ ap length c.self.view_is)
