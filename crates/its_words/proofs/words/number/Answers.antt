use Rattle.std.proofs.Common.{◌∙◌, ◌≡◌, Some, arith, rules, sym}
use Rattle.its_words.proofs.Numbers.{no_number, bad_number, a_number, large_number, in_range}
use Rattle.its_words.specs.Words.{number_of}
use Rattle.its_words.proofs.words.number.Goals as goal

pub returns-then-not-begins_above_zero-clause-value : goal.returns-then-not-begins_above_zero-clause-value
returns-then-not-begins_above_zero-clause-value c = no_number c.args.last c.args.text.now (search rules)

pub returns-in_err-number-clause-value : goal.returns-in_err-number-clause-value
returns-in_err-number-clause-value c = c.from_residual.ensures ∙ bad_number c.args.last c.args.text.now c.parse.result c.parse.ensures.value.0 (search rules)
    (omega (arith, c.ranges.last.fits)) (search rules)

is_number : (c : goal.Then-number-last) → Some c.in_ok-number.number ≡ number_of c.args.last c.args.text.now
is_number c = a_number c.args.last c.in_ok-number.number c.args.text.now c.parse.result c.parse.ensures.value.0 (search rules) (search rules) (search rules)

pub returns-then-number-last-clause-value : goal.returns-then-number-last-clause-value
returns-then-number-last-clause-value c = is_number c

pub returns-then-number-last-clause-range : goal.returns-then-number-last-clause-range
returns-then-number-last-clause-range c = in_range c.args.last c.in_ok-number.number c.args.text.now (sym (is_number c))

pub returns-else-number-last-clause-value : goal.returns-else-number-last-clause-value
returns-else-number-last-clause-value c = large_number c.args.last c.in_ok-number.number c.args.text.now c.parse.result c.parse.ensures.value.0 (search rules)
    (search rules) (search rules)
