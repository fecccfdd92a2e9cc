use Rattle.std.proofs.Common.{◌∙◌, inl, sym}
use Rattle.fit_answers.proofs.say.say_legs.Goals as goal

pub say_phase-requires-clause-one : goal.say_phase-requires-clause-one
say_phase-requires-clause-one c = sym c.as_slice.ensures ∙ c.in-Some.ensures.one

pub returns-in_ok-ending-in-Some : goal.returns-in_ok-ending-in-Some
returns-in_ok-ending-in-Some c = c.in_ok-ending-in-Some.ensures

pub returns-in_ok-line-in-None : goal.returns-in_ok-line-in-None
returns-in_ok-line-in-None c = λ input first is. inl (record {
  script = c.args.script.now;
  first = first;
  report = c.args.report.now;
  is_input = is;
  many = λ calls e. c.in-None.ensures.many calls (c.as_slice.ensures ∙ e);
  text_is = c.in_ok-line-in-None.ensures.ok;
})
