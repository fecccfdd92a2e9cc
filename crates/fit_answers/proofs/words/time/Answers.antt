use Rattle.std.proofs.Common.{◌≡◌, ◌∙◌, sym, ap, Some, None, true, false, arith}
use Rattle.std.specs.Fmt.{decimal}
use Rattle.std.specs.Str.{bytes_eq}
use Rattle.its_history.proofs.ReadNumbers.{same_text, texts_equal}
use Rattle.fit_answers.proofs.Times.{time_is, time_none}
use Rattle.fit_answers.proofs.words.time.Goals as goal

pub returns-in_err-number : goal.returns-in_err-number
returns-in_err-number c = c.from_residual.ensures
    ∙ sym (time_none c.args.text.now (λ n lt e. (let other : None ≡ Some n = c.in_err-number.ensures n lt e in cc)))

pub returns-then-eq : goal.returns-then-eq
returns-then-eq c =
    let same : c.as_bytes.result.now ≡ c.args.text.now = same_text c.as_bytes.result.now c.args.text.now (sym c.eq.ensures ∙ c.if-eq.true) in
    sym (time_is c.in_ok-number.number c.args.text.now (omega arith) (sym (c.as_bytes.ensures.value ∙ c.format.ensures.text) ∙ same))

pub returns-else-eq : goal.returns-else-eq
returns-else-eq c =
    sym (time_none c.args.text.now (λ n lt e.
    let is : c.in_ok-number.number ≡ n = (let one : Some c.in_ok-number.number ≡ Some n = c.in_ok-number.ensures n lt e in cc) in
    let same : bytes_eq c.as_bytes.result.now c.args.text.now ≡ true = texts_equal c.as_bytes.result.now c.args.text.now
    (c.as_bytes.ensures.value ∙ c.format.ensures.text ∙ ap decimal is ∙ e) in
    let differ : bytes_eq c.as_bytes.result.now c.args.text.now ≡ false = sym c.eq.ensures ∙ c.if-eq.false in
    cc))
