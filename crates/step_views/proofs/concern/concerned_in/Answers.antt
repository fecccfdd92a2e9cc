use Rattle.std.proofs.Common.{sym, ◌∙◌}
use Rattle.step_views.proofs.Meeting.{either, neither, stays_still, stays_met, stays_refused, met_concerns}
use Rattle.step_views.proofs.OfMachine.{targets}
use Rattle.step_views.proofs.concern.concerned_in.Goals as goal

pub needs-requires : goal.needs-requires
needs-requires c = record { targets = targets c.args.parts.now c.args.translator c.requires.whole c.requires.there }

pub returns-in-Still-clause-others : goal.returns-in-Still-clause-others
returns-in-Still-clause-others c =
    λ i at vcpu out. stays_still c.args.parts.now c.args.memory.now c.args.translator c.requires.whole i at c.in-Still.field-0 vcpu c.in-Still.ensures

pub returns-then-runs-clause-others : goal.returns-then-runs-clause-others
returns-then-runs-clause-others c =
    λ i at vcpu out.
    let both = neither _ _ (sym (c.of_both.ensures vcpu) ∙ out) in
    stays_met c.args.parts.now c.args.memory.now c.args.translator c.requires.whole i at c.in-Command.command c.needs.result vcpu c.in-Command.ensures c.needs.ensures.parts
    both.0 both.1

pub returns-then-runs-clause-concerned : goal.returns-then-runs-clause-concerned
returns-then-runs-clause-concerned c =
    λ i at vcpu named.
    met_concerns c.args.parts.now c.args.memory.now c.args.translator c.requires.whole i at c.in-Command.command c.needs.result vcpu c.in-Command.ensures
    c.needs.ensures.parts (sym (c.runs.ensures i at) ∙ c.if-runs.true) (either _ _ (sym (c.of_both.ensures vcpu) ∙ named))

pub returns-else-runs-clause-others : goal.returns-else-runs-clause-others
returns-else-runs-clause-others c =
    λ i at vcpu out.
    stays_refused c.args.parts.now c.args.memory.now c.args.translator c.requires.whole i at c.in-Command.command vcpu c.in-Command.ensures
    (sym (c.runs.ensures i at) ∙ c.if-runs.false)
