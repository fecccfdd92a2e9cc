use Rattle.std.proofs.Common.{sym, ap, ◌∙◌}
use Rattle.call_facts.specs.Idle.{idle_cause}
use Rattle.its_plain.specs.Plain.{Translator}
use Rattle.its_explain.proofs.Lent.{lent_is, lent_is_none}
use Rattle.its_explain.proofs.views.idle_seen.Goals as goal

pub returns-in-Some : goal.returns-in-Some
returns-in-Some c =
    c.idle_cause.ensures
    ∙ ap (λ (x : Translator). idle_cause x.regs)
    (sym
    (lent_is c.args.parts.now c.in_place.result c.args.its c.translator.result c.in_place.ensures.state c.translator.ensures c.in-Some.translator
    c.in-Some.is))

pub returns-in-None : goal.returns-in-None
returns-in-None c =
    sym
    (ap (λ (x : Translator). idle_cause x.regs)
    (lent_is_none c.args.parts.now c.in_place.result c.args.its c.translator.result c.in_place.ensures.state c.translator.ensures c.in-None.is))
