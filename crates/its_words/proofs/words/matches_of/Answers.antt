use Rattle.std.proofs.Common.{◌≡◌, ◌∙◌, true, false}
use Rattle.its_words.proofs.Parsed.{matched, not_taken, passes_none}
use Rattle.its_words.proofs.words.matches_of.Goals as goal

pub returns-in-Ok-clause-ok : goal.returns-in-Ok-clause-ok
returns-in-Ok-clause-ok c = matched _ _ c.in-Ok.matches c.in_ok-command.ensures c.in-Ok.ensures.kinds c.in-Ok.ensures.matches

pub returns-clause-refused : goal.returns-clause-refused
returns-clause-refused c = λ _. not_taken _ _ c.in-Err.error c.in_ok-command.ensures c.in-Err.ensures.kinds (λ memory. let bad : false ≡ true =
    rw (c.kind.ensures ∙ memory) at c.if-eq.ensures in cc)

pub returns-clause-not_taken : goal.returns-clause-not_taken
returns-clause-not_taken c = λ _. passes_none _ _ c.in-Err.error c.in_ok-command.ensures c.in-Err.ensures.passes (λ memory. let bad : false ≡ true =
    rw (c.kind.ensures ∙ memory) at c.if-eq.ensures in cc)
