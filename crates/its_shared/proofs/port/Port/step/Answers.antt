use Rattle.std.proofs.Common.{◌≡◌, ap, subst, sym, ◌∙◌}
use Rattle.cmd_engine.specs.Hands.{IsOfStep}
use Rattle.cmd_engine.specs.Rules.{KeepsTried}
use Rattle.cmd_engine.specs.Concern.{step_said, TellsOthers, TellsConcerned}
use Rattle.cmd_engine.specs.declared.stepped.Stepped.{Stepped}
use Rattle.its_numbers.specs.Limits.{forbids}
use Rattle.its_shared.proofs.Answered.{of_known, of_step}
use Rattle.its_shared.proofs.Concerning.{names_concerned}
use Rattle.its_shared.proofs.Limiting.{keeps_within}
use Rattle.its_shared.specs.Answers.{answer_of_tried}
use Rattle.its_shared.specs.Asked as asked
use Rattle.its_shared.specs.Concerns.{NamesConcerned}
use Rattle.its_shared.specs.Knowing.{Known}
use Rattle.its_shared.specs.Limits.{KeepsWithin}
use Rattle.its_shared.specs.Ports.{known_by}
use Rattle.its_shared.specs.declared.answer.Answer.{Answer}
use Rattle.its_steps.specs.Parts.{Setup}
use Rattle.its_turns.specs.Machines.{setup, view}
use Rattle.its_shared.proofs.port.Port.step.Goals as goal

pub returns-clause-answer : goal.returns-clause-answer
returns-clause-answer c =
    let v = view c.self.inside.pass in
    let w = view c.try_step_told.new.pass in
    of_known (asked.step c.args.its) (λ (k : Stepped). step_said k) (known_by c.self.inside) c.args.self.now w (answer_of_tried c.try_step_told.result) c.answered_tried.result c.self.view_is c.answered_tried.ensures
    (of_step c.args.its (IsOfStep c.args.its) v w c.try_step_told.result c.try_step_told.ensures.answer)

pub returns-clause-within : goal.returns-clause-within
returns-clause-within c =
    let v = view c.self.inside.pass in
    let w = view c.try_step_told.new.pass in
    let l = c.self.inside.limits in
    let same : v.setup ≡ setup c.deref.result.now = c.self.invariant.of.1 ∙ ap setup (sym c.deref.ensures) in
    subst (λ (k : Known × Answer Stepped). KeepsWithin k.0.limits c.args.its k.0.view.setup.start w.seen k.1)
    (λ i. (c.self.view_is i, sym c.answered_tried.ensures i))
    (keeps_within l c.args.its v.setup.start w.seen c.try_step_told.result
    (subst (λ (s : Setup). KeepsTried (λ m k. forbids l m k) s.start c.args.its w.seen c.try_step_told.result) (sym same) c.try_step_told.ensures.rule))

pub returns-clause-concerned : goal.returns-clause-concerned
returns-clause-concerned c =
    let v = view c.self.inside.pass in
    let w = view c.try_step_told.new.pass in
    let t = c.try_step_told in
    let same : v.setup ≡ setup c.deref.result.now = c.self.invariant.of.1 ∙ ap setup (sym c.deref.ensures) in
    subst (λ (k : Known × Answer Stepped). NamesConcerned c.args.its k.0.view.setup.start w.seen k.1)
    (λ i. (c.self.view_is i, sym c.answered_tried.ensures i))
    (names_concerned c.args.its v.setup.start w.seen t.result
    (subst (λ (s : Setup). TellsOthers s.start c.args.its w.seen t.result) (sym same) t.ensures.others)
    (subst (λ (s : Setup). TellsConcerned s.start c.args.its w.seen t.result) (sym same) t.ensures.concerned))
