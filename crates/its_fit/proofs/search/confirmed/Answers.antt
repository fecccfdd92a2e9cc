use Rattle.std.proofs.Common.{◌≡◌, ◌∙◌, List, [], ◌∷◌, length, sym}
use Rattle.trace_check.specs.Verdicts.{IsReportOfRun}
use Rattle.its_fit.specs.Explained.{Line, report_of}
use Rattle.its_fit.specs.Ordered.{AreLinesOf, IsOrdered}
use Rattle.its_fit.proofs.Confirming.{shape_of, names_by, fit_of}
use Rattle.its_fit.proofs.search.confirmed.Goals as goal

pub check-requires : goal.check-requires
check-requires c =
    let told = c.args.recording.now.told.now in
    let so : IsOrdered c.as_slice.result.now c.in-Some.calls.items = rw c.in-Some.is at c.in_ok-calls.ensures in
    let names : (lines : List Line) → AreLinesOf told.threads c.deref.result.now lines → c.in-Some-2.trace.legs ≡ report_of lines told.pending ∷ [] =
    rw c.in-Some-2.is at c.in_ok-trace.ensures in
    let o : IsOrdered told.threads c.deref.result.now = names_by c.as_slice.ensures c.deref.ensures.value so in
    shape_of (length c.in_ok-machine.machine.redistributors) c.args.legs.now o.lines told.pending c.in-Some-2.trace.legs
    (sym c.len.ensures ∙ c.if-len-vcpus.false ∙ c.vcpus.ensures) c.requires (names o.lines o.are_lines)

pub returns-in-Agrees : goal.returns-in-Agrees
returns-in-Agrees c =
    let r = c.args.recording.now in let told = c.args.recording.now.told.now in
    let so : IsOrdered c.as_slice.result.now c.in-Some.calls.items = rw c.in-Some.is at c.in_ok-calls.ensures in
    let names : (lines : List Line) → AreLinesOf told.threads c.deref.result.now lines → c.in-Some-2.trace.legs ≡ report_of lines told.pending ∷ [] =
    rw c.in-Some-2.is at c.in_ok-trace.ensures in
    let o : IsOrdered told.threads c.deref.result.now = names_by c.as_slice.ensures c.deref.ensures.value so in
    let run : IsReportOfRun c.in_ok-machine.machine c.args.legs.now [] c.in-Some-2.trace.legs = rw c.in-Agrees.is at c.in_ok-check.ensures.agrees in
    fit_of r.desc.now r.calls.now told c.deref.result.now c.in_ok-machine.machine c.args.legs.now c.in-Some-2.trace.legs o c.in_ok-machine.ensures c.requires
    (names o.lines o.are_lines) run
