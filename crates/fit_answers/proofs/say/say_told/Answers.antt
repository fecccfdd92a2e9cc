use Rattle.std.proofs.Common.{◌∙◌, List, inr, subst}
use Rattle.its_fit.specs.declared.told.Answered.{Answered}
use Rattle.fit_answers.specs.FitSays.{AllHaveAll, IsUneven}
use Rattle.fit_answers.proofs.Saying.{of_told}
use Rattle.fit_answers.proofs.say.say_told.Goals as goal

pub say_recording-requires : goal.say_recording-requires
say_recording-requires c = c.as_slice-in-None.ensures ∙ c.requires.one

pub returns-in_ok-line-in-Some : goal.returns-in_ok-line-in-Some
returns-in_ok-line-in-Some c = λ input first it. inr (inr (record {
  script = c.args.script.now;
  calls = c.args.calls.now;
  report = c.args.report.now;
  told = c.args.told.now;
  is_phase = record { first = first; is_input = it; one = c.requires.one };
  is_told = c.requires.told;
  number = c.in-Some.thread;
  uneven = subst (λ (ts : List (List Answered)). IsUneven c.args.calls.now ts c.in-Some.thread) c.as_slice.ensures c.in-Some.ensures.some;
  text_is = c.in_ok-line-in-Some.ensures;
}))

pub returns-in_ok-ending-in-None : goal.returns-in_ok-ending-in-None
returns-in_ok-ending-in-None c = λ input first it.
    of_told c.args.bound c.in_ok-ending-in-None.ending.status input _ c.args.script.now c.args.calls.now c.args.told.now (record {
      report = c.args.report.now;
      is_phase = record { first = first; is_input = it; one = c.requires.one };
      is_told = c.requires.told;
      all = subst (λ (ts : List (List Answered)). AllHaveAll c.args.calls.now ts) c.as_slice.ensures c.in-None.ensures.none;
    }) c.in_ok-ending-in-None.ensures
