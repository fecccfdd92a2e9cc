use Rattle.std.proofs.Common.{ap, sym, subst, ◌∙◌}
use Rattle.cmd_engine.specs.Concern.{BeforeLast}
use Rattle.its_shared.specs.Concerns.{AreConcerned, UnconcernedStay}
use Rattle.its_shared.specs.Knowing.{Known}
use Rattle.its_shared.specs.declared.pass.Pass.{Pass}
use Rattle.its_shared.proofs.Seen.{same_some}
use Rattle.its_shared.proofs.step_calls.its_pass_step.Goals as goal

pub returns-clause-unconcerned : goal.returns-clause-unconcerned
returns-clause-unconcerned c k l before later done =
    let old = same_some c.lent.result.now k (sym c.lent.ensures.value ∙ (ap (λ (p : Pass). p.known) c.is_empty.ensures.1 ∙ before)) in
    let now = same_some c.step.new.port l later in
    subst (λ (x : Known × Known). BeforeLast (UnconcernedStay c.step.new.out.concerned c.args.translator) x.0.view.setup.start x.1.view.seen) (λ d. (old d, now d))
    (c.step.ensures.unconcerned done)

pub returns-clause-concerned : goal.returns-clause-concerned
returns-clause-concerned c k l before later done =
    let old = same_some c.lent.result.now k (sym c.lent.ensures.value ∙ (ap (λ (p : Pass). p.known) c.is_empty.ensures.1 ∙ before)) in
    let now = same_some c.step.new.port l later in
    subst (λ (x : Known × Known). BeforeLast (AreConcerned c.step.new.out.concerned c.args.translator) x.0.view.setup.start x.1.view.seen) (λ d. (old d, now d))
    (c.step.ensures.concerned done)
