use Rattle.its_words.proofs.Numbers.{is_not_zero, is_zero}
use Rattle.its_words.proofs.words.number_or_zero.Goals as goal

pub returns-in-text-clause-value : goal.returns-in-text-clause-value
returns-in-text-clause-value c = is_zero c.args.last c.args.text.now c.in-text.is

pub returns-in_default-clause-value : goal.returns-in_default-clause-value
returns-in_default-clause-value c =
    is_not_zero c.args.last c.args.text.now c.number.result c.in_default.not-text c.number.ensures.value
