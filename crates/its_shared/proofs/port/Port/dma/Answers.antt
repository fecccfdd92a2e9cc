use Rattle.std.proofs.Common.{sym, subst}
use Rattle.device_port.specs.Dmas.{reply_of}
use Rattle.device_port.specs.declared.told.Dma.{Dma}
use Rattle.its_plain.specs.Doorbells.{dma_of}
use Rattle.its_turns.specs.Machines.{view}
use Rattle.its_turns.specs.declared.machine.Machine.{Machine}
use Rattle.its_shared.specs.Answers.{Answers}
use Rattle.its_shared.specs.Asked as asked
use Rattle.its_shared.specs.Knowing.{Known}
use Rattle.its_shared.specs.declared.answer.Answer.{Answer}
use Rattle.its_shared.proofs.Answered.{of_dma}
use Rattle.its_shared.proofs.port.Port.dma.Goals as goal

pub returns-clause-answer : goal.returns-clause-answer
returns-clause-answer c =
    let a = c.args in
    let v = view c.self.inside.pass in
    let w = view c.try_dma_within.new.pass in
    subst (λ (k : Known). Answers (asked.dma k a.req a.address a.bytes) reply_of k.view w c.answered_held.result) c.self.view_is
    (subst (λ (m : Machine). Answers (dma_of m.desc a.req (record { 0 = a.address }) a.bytes) reply_of v w c.answered_held.result) c.deref.ensures
    (subst (λ (x : Answer Dma). Answers (dma_of c.deref.result.now.desc a.req (record { 0 = a.address }) a.bytes) reply_of v w x) (sym c.answered_held.ensures)
    (of_dma c.deref.result.now.desc a.req (record { 0 = a.address }) a.bytes v w c.try_dma_within.result c.try_dma_within.ensures.answer)))
