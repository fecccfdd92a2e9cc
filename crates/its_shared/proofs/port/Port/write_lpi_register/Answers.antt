use Rattle.std.proofs.Common.{sym, ap, ◌∙◌}
use Rattle.its_plain.specs.declared.call.Reply.TheVariants as reply
use Rattle.its_turns.specs.Machines.{setup, view}
use Rattle.its_shared.specs.Answers.{answer_or_none}
use Rattle.its_shared.specs.Asked as asked
use Rattle.its_shared.specs.Ports.{known_by}
use Rattle.its_shared.proofs.Answered.{of_known, of_gicr}
use Rattle.its_shared.proofs.port.Port.write_lpi_register.Goals as goal

pub returns-clause-answer : goal.returns-clause-answer
returns-clause-answer c =
    let a = c.args in
    let v = view c.self.inside.pass in
    let w = view c.try_write_gicr.new.pass in
    of_known (asked.write_lpi_register a.vcpu a.offset a.size a.value) (λ _. reply.Ok) (known_by c.self.inside) a.self.now w
    (answer_or_none c.try_write_gicr.result) c.answered_if.result c.self.view_is c.answered_if.ensures
    (of_gicr (setup c.deref.result.now) a.vcpu a.offset a.size a.value v w c.try_write_gicr.result (c.self.invariant.of.1 ∙ ap setup (sym c.deref.ensures))
    c.try_write_gicr.ensures.answer)
