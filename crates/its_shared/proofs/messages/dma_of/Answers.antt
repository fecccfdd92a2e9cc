use Rattle.std.proofs.Common.{ap, sym, ◌∙◌, subst}
use Rattle.std.specs.Prelude.{ℕ}
use Rattle.its_plain.specs.declared.desc.Desc.{Desc}
use Rattle.device_port.specs.Dmas.{reply_of}
use Rattle.its_numbers.specs.declared.counters.Counters.{Counters}
use Rattle.its_numbers.specs.declared.limits.GuestLimits.{GuestLimits}
use Rattle.its_plain.specs.declared.call.Route.{Route}
use Rattle.its_steps.specs.World.{View}
use Rattle.its_shared.specs.Answers.{Answers}
use Rattle.its_shared.specs.Asked as asked
use Rattle.its_shared.specs.Knowing.{Known, setting}
use Rattle.its_shared.specs.Telling.{as_told, dma_told, out_after}
use Rattle.its_shared.proofs.Counted.{counts_so}
use Rattle.its_shared.proofs.messages.dma_of.Goals as goal

abbrev Beside : Type 0
Beside = Desc × GuestLimits × ℕ × Counters

pub returns-clause-told : goal.returns-clause-told
returns-clause-told c =
    let a = c.args in
    record {
      answer = c.dma-answer.result;
      answers = subst (λ (w : View). Answers (asked.dma a.port.now a.requester a.address a.bytes) reply_of a.port.now.view w c.dma-answer.result) (sym (ap (λ (k : Known). k.view) (c.count_dma.ensures a.requester a.address a.bytes)))
          c.dma-answer.ensures.answer;
      code_is = c.tell_dma.ensures.code;
      place_is = c.tell_dma.ensures.place;
      out_is = c.tell_dma.ensures.out ∙ ap (λ (r : Route). out_after (as_told (dma_told r)) c.dma-answer.result a.out.now) c.route-route.ensures;
    }

pub returns-clause-counts : goal.returns-clause-counts
returns-clause-counts c =
    let a = c.args in
    let e = c.dma-answer.ensures in
    counts_so (asked.dma a.port.now a.requester a.address a.bytes) reply_of a.port.now c.dma-answer.new.self c.count_dma.new.self c.tell_dma.result c.dma-answer.result
    (e.answer, ap (λ (b : Beside). b.2) e.beside, ap (λ (b : Beside). b.3) e.beside, (c.count_dma.ensures a.requester a.address a.bytes), c.tell_dma.ensures.code)

pub returns-clause-setting : goal.returns-clause-setting
returns-clause-setting c =
    let a = c.args in
    ap (λ (k : Known). setting k) (c.count_dma.ensures a.requester a.address a.bytes) ∙ ap (λ (b : Beside). (b.0, b.1)) c.dma-answer.ensures.beside
