use Rattle.std.proofs.Common.{◌≡◌, ℕ, List, sym, ap, subst, ◌∙◌, map}
use Rattle.std.specs.Prelude.{filter, IfOk, ◌==◌}
use Rattle.std.specs.FinMap.{entries, entries-from_sorted}
use Rattle.its_types.specs.Maps.{Maps, pair_cmp}
use Rattle.its_types.specs.declared.translation.Event.{Event}
use Rattle.plain_machine.proofs.maps.MapLists.intids.Goals as goal

abbrev entries_of : Maps → List ((ℕ × ℕ) × Event)
entries_of m = entries m.events

pub returns : goal.returns
returns c =
    let same = c.deref.ensures.value ∙ sym (entries-from_sorted pair_cmp c.self.inside.events.items c.self.invariant.events) ∙ ap entries_of c.self.view_is in
    subst (λ (x : List ℕ). IfOk c.intids.result (λ v. v.items ≡ x))
    (ap (λ (es : List ((ℕ × ℕ) × Event)). map (λ e. e.1.intid.0) (filter (λ e. e.1.icid.0 == c.args.icid.0) es)) same) c.intids.ensures
