use Rattle.std.proofs.Common.{◌∙◌, ap}
use Rattle.std.specs.String.{string_bytes}
use Rattle.its_words.specs.Words.{asked_by_option}
use Rattle.its_words.proofs.Options.{few, many, two}
use Rattle.its_words.proofs.words.option.Goals as goal

pub returns-in-len2-clause-value : goal.returns-in-len2-clause-value
returns-in-len2-clause-value c =
    c.asked_by_option.ensures.value ∙ ap asked_by_option c.as_str.ensures.value
    ∙ two (λ w. string_bytes w) c.args.words.now c.word-item.result c.in-len2.len_at_least c.in-len2.len_below c.word-item.is

pub returns-in_default-clause-value : goal.returns-in_default-clause-value
returns-in_default-clause-value c = few (λ w. string_bytes w) c.args.words.now c.in_default.len_below

pub returns-in_default-2-clause-value : goal.returns-in_default-2-clause-value
returns-in_default-2-clause-value c = many (λ w. string_bytes w) c.args.words.now c.in_default.len_at_least
