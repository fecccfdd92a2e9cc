use Rattle.std.proofs.Common.{◌≡◌, ℕ, List, ◌++◌, length, take, drop, sym, ap, subst, ◌∙◌}
use Rattle.std.proofs.Math.Seq.{take-append_seam}
use Rattle.lpi_pending.specs.PendingSets.{PendingSet}
use Rattle.owned_machine.proofs.Led.{nothing}
use Rattle.owned_machine.specs.Stale.{AreSetsBy, led_in}
use Rattle.owned_machine.proofs.stale.led_to.Goals as goal

pub returns : goal.returns
returns c =
    let p = c.args.parts.now in
    let new : List PendingSet = c.add_all.new.sets in
    let items : List PendingSet = c.in_ok-sets.sets.items in
    let empty : AreSetsBy p nothing items = c.in_ok-sets.ensures in
    let by : AreSetsBy p (led_in p) new = c.add_all.ensures nothing (subst (AreSetsBy p nothing) (sym c.deref_mut.ensures.value) empty) in
    let long : length new ≡ c.in_ok-sets.sets.len = by.as_many ∙ sym empty.as_many ∙ ap (λ (xs : List PendingSet). length xs) (sym c.deref_mut.ensures.value)
    ∙ c.deref_mut.ensures.len in
    let whole : take c.in_ok-sets.sets.len (new ++ drop (length new) items) ≡ new = ap (λ (n : ℕ). take n (new ++ drop (length new) items)) (sym long)
    ∙ take-append_seam new (drop (length new) items) in
    subst (AreSetsBy p (led_in p)) (sym whole) by
