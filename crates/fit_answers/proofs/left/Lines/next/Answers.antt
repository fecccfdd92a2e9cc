use Rattle.std.proofs.Common.{◌≡◌, ◌∙◌, true, false, refl, sym, None, Some}
use Rattle.its_history.specs.Reading.{is_printed}
use Rattle.its_history.proofs.ReadLines.{next_at}
use Rattle.fit_answers.proofs.left.Lines.next.Goals as goal

pub returns-in_err-line-clause-next : goal.returns-in_err-line-clause-next
returns-in_err-line-clause-next c =
    rw c.from_residual.ensures (sym (next_at c.args.self.now.number c.args.self.now.rest.now None c.in_err-line.ensures.parts))

pub returns-then-is_printed-clause-next : goal.returns-then-is_printed-clause-next
returns-then-is_printed-clause-next c =
    let printed : is_printed c.in_ok-line.line.now ≡ true = sym c.is_printed.ensures ∙ c.if-is_printed.true in
    sym (next_at c.args.self.now.number c.args.self.now.rest.now (Some (c.in_ok-line.line.now, c.in_ok-line.rest.now)) c.in_ok-line.ensures.parts
    ∙ rw printed refl)

pub returns-else-is_printed-clause-next : goal.returns-else-is_printed-clause-next
returns-else-is_printed-clause-next c =
    let printed : is_printed c.in_ok-line.line.now ≡ false = sym c.is_printed.ensures ∙ c.if-is_printed.false in
    sym (next_at c.args.self.now.number c.args.self.now.rest.now (Some (c.in_ok-line.line.now, c.in_ok-line.rest.now)) c.in_ok-line.ensures.parts
    ∙ rw printed refl)
