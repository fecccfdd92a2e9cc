use Rattle.std.proofs.Common.{ap, sym, ◌∙◌, subst}
use Rattle.std.specs.Prelude.{ℕ}
use Rattle.its_plain.specs.declared.desc.Desc.{Desc}
use Rattle.its_plain.specs.declared.call.Reply.TheVariants as reply
use Rattle.its_numbers.specs.declared.counters.Counters.{Counters}
use Rattle.its_numbers.specs.declared.limits.GuestLimits.{GuestLimits}
use Rattle.its_steps.specs.World.{View}
use Rattle.its_shared.specs.Answers.{Answers}
use Rattle.its_shared.specs.Asked as asked
use Rattle.its_shared.specs.Knowing.{Known, setting}
use Rattle.its_shared.proofs.Counted.{counts_so}
use Rattle.its_shared.proofs.messages.signal_of.Goals as goal

abbrev Beside : Type 0
Beside = Desc × GuestLimits × ℕ × Counters

pub returns-clause-told : goal.returns-clause-told
returns-clause-told c =
    let a = c.args in
    record {
      answer = c.signal-answer.result;
      answers = subst (λ (w : View). Answers (asked.signal a.its a.device a.event) reply.Signal a.port.now.view w c.signal-answer.result) (sym (ap (λ (k : Known). k.view) (c.count_signal.ensures a.its a.device a.event)))
          c.signal-answer.ensures.answer;
      code_is = c.tell_signal.ensures.code;
      place_is = c.tell_signal.ensures.place;
      out_is = c.tell_signal.ensures.out;
    }

pub returns-clause-counts : goal.returns-clause-counts
returns-clause-counts c =
    let a = c.args in
    let e = c.signal-answer.ensures in
    counts_so (asked.signal a.its a.device a.event) reply.Signal a.port.now c.signal-answer.new.self c.count_signal.new.self c.tell_signal.result c.signal-answer.result
    (e.answer, ap (λ (b : Beside). b.2) e.beside, ap (λ (b : Beside). b.3) e.beside, (c.count_signal.ensures a.its a.device a.event), c.tell_signal.ensures.code)

pub returns-clause-setting : goal.returns-clause-setting
returns-clause-setting c =
    let a = c.args in
    ap (λ (k : Known). setting k) (c.count_signal.ensures a.its a.device a.event) ∙ ap (λ (b : Beside). (b.0, b.1)) c.signal-answer.ensures.beside
