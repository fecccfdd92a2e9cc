use Rattle.std.proofs.Common.{◌∙◌, ◌+◌, Bool, Some, length, drop, sym, ap, arith}
use Rattle.std.proofs.lemmas.List.{length-drop}
use Rattle.trace_check.specs.Verdicts.{copies_of}
use Rattle.trace_check.proofs.Checked.{after_some, after_none}
use Rattle.trace_check.proofs.legs.copies_after.Goals as goal

pub returns-then-index-legs : goal.returns-then-index-legs
returns-then-index-legs c =
    let legs = c.args.legs.now in let i = c.args.index in
    ap (λ (b : Bool). Some b) c.copies_at.ensures
    ∙ sym (after_some (length (drop (i + 1) legs)) (drop i (copies_of c.args.moves.now)) (omega (arith, length-drop (i + 1) legs, c.if-index-legs.true)))

pub returns-else-index-legs : goal.returns-else-index-legs
returns-else-index-legs c =
    let legs = c.args.legs.now in let i = c.args.index in
    sym (after_none (length (drop (i + 1) legs)) (drop i (copies_of c.args.moves.now)) (omega (arith, length-drop (i + 1) legs, c.if-index-legs.false)))
