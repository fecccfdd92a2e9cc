use Rattle.std.proofs.Common.{◌∙◌, Err, ap, sym}
use Rattle.its_words.proofs.Parsed.{asks, asks_none, option_asks, same_error}
use Rattle.its_words.proofs.words.parse_words.Goals as goal

pub returns-in-Some-clause-ok : goal.returns-in-Some-clause-ok
returns-in-Some-clause-ok c = option_asks _ c.in-Some.asked (sym c.option.ensures.value ∙ c.in-Some.is)

pub returns-in_err-matches-clause-refused : goal.returns-in_err-matches-clause-refused
returns-in_err-matches-clause-refused c = λ e.
    asks_none _ (sym c.option.ensures.value ∙ c.in_default.is)
    (c.in_err-matches.ensures.refused (ap (λ x. Err x) (same_error c.from_residual.result _ _ c.from_residual.ensures.1 e)))

pub returns-in-Some-read-clause-ok : goal.returns-in-Some-read-clause-ok
returns-in-Some-read-clause-ok c = asks _ c.in_ok-matches.matches _ (sym c.option.ensures.value ∙ c.in_default.is) c.in_ok-matches.ensures.ok
    c.in-Some-read.ensures.value

pub returns-clause-refused : goal.returns-clause-refused
returns-clause-refused c = λ _. asks _ c.in_ok-matches.matches _ (sym c.option.ensures.value ∙ c.in_default.is) c.in_ok-matches.ensures.ok
    c.in-None.ensures.value
