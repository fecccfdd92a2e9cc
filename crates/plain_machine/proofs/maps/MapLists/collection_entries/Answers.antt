use Rattle.std.proofs.Common.{◌≡◌, ◌∙◌, ℕ, List, sym, ap, subst}
use Rattle.std.specs.Prelude.{IfOk}
use Rattle.std.specs.FinMap.{entries}
use Rattle.its_types.specs.Maps.{Maps}
use Rattle.its_types.specs.declared.ids.Vcpu.{Vcpu}
use Rattle.its_types.specs.declared.translation.Event.{Event}
use Rattle.plain_machine.proofs.CollectionEntries.{list_where, saved_list}
use Rattle.plain_machine.proofs.Entries.{listed_collections, listed_events}
use Rattle.plain_machine.proofs.maps.MapLists.collection_entries.Goals as goal

pub returns : goal.returns
returns c =
    let m : Maps = c.args.self.now in
    let cs = c.deref.ensures.value ∙ sym (listed_collections c.self.inside c.self.invariant) ∙ ap (λ (n : Maps). entries n.collections) c.self.view_is in
    let es = c.deref-2.ensures.value ∙ sym (listed_events c.self.inside c.self.invariant) ∙ ap (λ (n : Maps). entries n.events) c.self.view_is in
    subst (λ (list : List (ℕ × Vcpu)). IfOk c.collection_entries.result (λ v. v.items ≡ list))
    (ap (λ (list : List (ℕ × Vcpu)). list_where c.args.shape.now.linux c.args.regs.now list c.deref-2.result.now) cs
    ∙ ap (λ (list : List ((ℕ × ℕ) × Event)). list_where c.args.shape.now.linux c.args.regs.now (entries m.collections) list) es
    ∙ saved_list c.args.shape.now (record { regs = c.args.regs.now; maps = m }))
    c.collection_entries.ensures
