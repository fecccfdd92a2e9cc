use Rattle.std.proofs.Common.{take, ◌∷◌, sym, ap, ◌∙◌}
use Rattle.event_script.specs.Text.{parts}
use Rattle.event_script.proofs.Lines.{parts_on, parts_last}
use Rattle.event_script.proofs.reading.split_line.Goals as goal

pub returns-in_err-end-clause-last : goal.returns-in_err-end-clause-last
returns-in_err-end-clause-last c = rw c.from_residual.ensures (parts_last c.args.text.now (sym c.in_err-end.ensures.place))

pub returns-clause-first : goal.returns-clause-first
returns-clause-first c =
    parts_on c.args.text.now c.in_ok-end.end (sym c.in_ok-end.ensures.place)
    ∙ ap (λ rest. take c.in_ok-end.end c.args.text.now ∷ parts rest) (sym c.after.ensures.rest)
