use Rattle.std.proofs.Common.{sym, ◌∙◌}
use Rattle.owned_machine.proofs.Walking.{leads_nowhere, leads_there}
use Rattle.owned_machine.proofs.stale.add_event.Goals as goal

pub add-requires-clause-vcpu : goal.add-requires-clause-vcpu
add-requires-clause-vcpu c = c.requires.inside.targets c.args.event.icid.0 c.in-Some.vcpu (sym c.collection.ensures ∙ c.in-Some.is)

pub returns-in-Some : goal.returns-in-Some
returns-in-Some c =
    leads_there c.args.parts.now c.args.maps.now.maps c.args.event c.in-Some.vcpu c.args.sets.now c.add.new.sets (sym c.collection.ensures ∙ c.in-Some.is)
    c.add.ensures

pub returns-in_default : goal.returns-in_default
returns-in_default c =
    leads_nowhere c.args.parts.now c.args.maps.now.maps c.args.event c.args.sets.now (sym c.collection.ensures ∙ c.in_default.is)
