use Rattle.std.proofs.Common.{List, length, sym, subst}
use Rattle.its_plain.specs.Runs.{Leg}
use Rattle.event_script.specs.declared.script.Move.{Move}
use Rattle.its_history.specs.ReadBack.{HasShape}
use Rattle.trace_check.specs.Verdicts.{copies_of}
use Rattle.its_answers.proofs.Reports.{verdict_said}
use Rattle.its_answers.proofs.check.compare.Goals as goal

pub check-requires : goal.check-requires
check-requires c =
    subst (λ (z : List Leg × List Move). HasShape (length c.args.machine.redistributors) (length z.0) (copies_of z.1) c.args.trace.now.legs)
    (λ i. (sym c.as_slice-legs.ensures i, sym c.as_slice-moves.ensures i)) c.requires

pub returns : goal.returns
returns c =
    let v = c.in_ok-verdict.ensures in
    verdict_said c.args.script.now c.args.machine c.as_slice-legs.result.now c.as_slice-moves.result.now c.args.trace.now.legs c.in_ok-verdict.verdict _ _
    c.as_slice-legs.ensures c.as_slice-moves.ensures v.agrees v.differs v.exact c.in_ok-ending.ensures
