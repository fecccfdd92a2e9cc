use Rattle.std.proofs.Common.{ap, sym, subst, ◌∙◌}
use Rattle.std.specs.Prelude.{ℕ}
use Rattle.its_plain.specs.declared.desc.Desc.{Desc}
use Rattle.its_numbers.specs.declared.counters.Counters.{Counters}
use Rattle.its_numbers.specs.declared.limits.GuestLimits.{GuestLimits}
use Rattle.its_steps.specs.World.{View}
use Rattle.cmd_engine.specs.Concern.{step_said}
use Rattle.cmd_engine.specs.declared.stepped.Stepped.{Stepped}
use Rattle.its_shared.specs.Answers.{Answers}
use Rattle.its_shared.specs.Asked as asked
use Rattle.its_shared.specs.Concerns.{untold_answer, NamesConcerned}
use Rattle.its_shared.specs.Knowing.{Known, setting}
use Rattle.its_shared.specs.Limits.{KeepsWithin}
use Rattle.its_shared.proofs.Concerning.{untold_answers, untold_code, untold_place, names_words}
use Rattle.its_shared.proofs.Counted.{counts_so, keeps_routes, stays_stepped}
use Rattle.its_shared.proofs.Limiting.{steps_within}
use Rattle.its_shared.proofs.commands.step_of.Goals as goal

abbrev Beside : Type 0
Beside = Desc × GuestLimits × ℕ × Counters

pub returns-clause-told : goal.returns-clause-told
returns-clause-told c =
    let k = c.args.port.now in
    let a = c.step-answer.result in
    record {
      answer = untold_answer a;
      answers = untold_answers c.args.its k.view c.count_step.new.self.view a
          (subst (λ (w : View). Answers (asked.step c.args.its) (λ (s : Stepped). step_said s) k.view w a) (sym (ap (λ (z : Known). z.view) (c.count_step.ensures c.args.its)))
          c.step-answer.ensures.answer);
      code_is = c.tell_step.ensures.code ∙ untold_code a;
      place_is = c.tell_step.ensures.place ∙ untold_place a c.args.place.now;
      out_is = c.tell_step.ensures.out;
    }

pub returns-clause-counts : goal.returns-clause-counts
returns-clause-counts c =
    let a = c.args in
    let e = c.step-answer.ensures in
    counts_so (asked.step c.args.its) (λ (s : Stepped). step_said s) a.port.now c.step-answer.new.self c.count_step.new.self c.tell_step.result c.step-answer.result
    (e.answer, ap (λ (b : Beside). b.2) e.beside, ap (λ (b : Beside). b.3) e.beside, c.count_step.ensures c.args.its, c.tell_step.ensures.code)

pub returns-clause-routes : goal.returns-clause-routes
returns-clause-routes c =
    let a = c.args in
    let e = c.step-answer.ensures in
    keeps_routes (asked.step c.args.its) (λ (s : Stepped). step_said s) a.port.now c.step-answer.new.self c.count_step.new.self c.tell_step.result c.step-answer.result
    (stays_stepped c.args.its) (e.answer, ap (λ (b : Beside). b.2) e.beside, ap (λ (b : Beside). b.3) e.beside, c.count_step.ensures c.args.its, c.tell_step.ensures.code)

pub returns-clause-within : goal.returns-clause-within
returns-clause-within c =
    let k = c.args.port.now in
    steps_within c.args.its k c.count_step.new.self c.tell_step.result c.step-answer.result c.tell_step.ensures.code
    (subst (λ (w : View). KeepsWithin k.limits c.args.its k.view.setup.start w.seen c.step-answer.result) (sym (ap (λ (z : Known). z.view) (c.count_step.ensures c.args.its)))
    c.step-answer.ensures.within)

pub returns-clause-setting : goal.returns-clause-setting
returns-clause-setting c =
    ap (λ (k : Known). setting k) (c.count_step.ensures c.args.its) ∙ ap (λ (b : Beside). (b.0, b.1)) c.step-answer.ensures.beside

-- ---- whom it concerned

pub returns-clause-unconcerned : goal.returns-clause-unconcerned
returns-clause-unconcerned c done =
    let k = c.args.port.now in
    let named = names_words c.args.its k.view.setup.start c.count_step.new.self.view.seen c.tell_step.new.out.concerned c.step-answer.result c.tell_step.result
    c.tell_step.ensures.code
    (subst (λ (w : View). NamesConcerned c.args.its k.view.setup.start w.seen c.step-answer.result) (sym (ap (λ (z : Known). z.view) (c.count_step.ensures c.args.its)))
    c.step-answer.ensures.concerned) c.tell_step.ensures.concerned done in
    λ before last eq. (named before last eq).0

pub returns-clause-concerned : goal.returns-clause-concerned
returns-clause-concerned c done =
    let k = c.args.port.now in
    let named = names_words c.args.its k.view.setup.start c.count_step.new.self.view.seen c.tell_step.new.out.concerned c.step-answer.result c.tell_step.result
    c.tell_step.ensures.code
    (subst (λ (w : View). NamesConcerned c.args.its k.view.setup.start w.seen c.step-answer.result) (sym (ap (λ (z : Known). z.view) (c.count_step.ensures c.args.its)))
    c.step-answer.ensures.concerned) c.tell_step.ensures.concerned done in
    λ before last eq. (named before last eq).1
