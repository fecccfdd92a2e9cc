use Rattle.std.proofs.Common.{ap, ◌∙◌}
use Rattle.its_plain.specs.Answer.{gicr_read, left, reply_of}
use Rattle.its_plain.specs.Plain.{Plain}
use Rattle.its_explain.specs.Looks.{value_in}
use Rattle.its_explain.proofs.replayed.Replayed.lpi_value.Goals as goal

pub returns-clause-kept : goal.returns-clause-kept
unfolding left
returns-clause-kept c = c.in_ok-reply.ensures.left ∙ c.self.view_is

pub returns-clause-value : goal.returns-clause-value
unfolding reply_of
returns-clause-value c =
    c.value_in.ensures ∙ ap value_in c.in_ok-reply.ensures.reply
    ∙ ap (λ (u : Plain). gicr_read u c.args.vcpu.0 c.args.off c.args.size) c.self.view_is
