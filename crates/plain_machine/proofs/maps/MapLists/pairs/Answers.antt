use Rattle.std.proofs.Common.{◌≡◌, List, sym, ap, subst, ◌∙◌, map}
use Rattle.std.specs.Prelude.{IfOk}
use Rattle.std.specs.FinMap.{entries}
use Rattle.its_types.specs.declared.ids.DeviceId.{DeviceId}
use Rattle.its_types.specs.declared.ids.EventId.{EventId}
use Rattle.its_types.specs.Maps.{Maps}
use Rattle.plain_machine.specs.MappedPairs.{pair_of}
use Rattle.plain_machine.proofs.Entries.{listed_events}
use Rattle.plain_machine.proofs.MappedPairs.{if_mapped}
use Rattle.plain_machine.proofs.maps.MapLists.pairs.Goals as goal

pub returns-clause-pairs : goal.returns-clause-pairs
returns-clause-pairs c =
    let same = c.deref.ensures.value ∙ sym (listed_events c.self.inside c.self.invariant) ∙ ap (λ (m : Maps). entries m.events) c.self.view_is in
    subst (λ (x : List (DeviceId × EventId)). IfOk c.pairs_of.result (λ v. v.items ≡ x)) (ap (map pair_of) same) c.pairs_of.ensures

pub returns-clause-mapped : goal.returns-clause-mapped
returns-clause-mapped c =
    let same = c.deref.ensures.value ∙ sym (listed_events c.self.inside c.self.invariant) ∙ ap (λ (m : Maps). entries m.events) c.self.view_is in
    let listed = subst (λ (x : List (DeviceId × EventId)). IfOk c.pairs_of.result (λ v. v.items ≡ x)) (ap (map pair_of) same) c.pairs_of.ensures in
    if_mapped c.args.self.now (λ v. v.items) c.pairs_of.result listed
