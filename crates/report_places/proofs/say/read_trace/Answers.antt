use Rattle.std.proofs.Common.{◌≡◌, ℕ, Bool, List, length, ap, ◌∙◌, subst}
use Rattle.its_history.specs.Reading.{IsReadAs, trace_of}
use Rattle.trace_check.specs.Verdicts.{copies_of}
use Rattle.report_places.proofs.say.read_trace.Goals as goal

pub returns : goal.returns
returns c =
    let copies : c.as_slice-2.result.now ≡ copies_of c.args.script.now.moves =
    c.as_slice-2.ensures.value ∙ c.in_ok-copied.ensures ∙ ap copies_of c.as_slice.ensures in
    subst (λ (z : ℕ × List Bool). IsReadAs c.parse_trace.result (trace_of z.0 z.1 c.args.script.now.desc.shape.vcpus c.args.report.now))
    (λ i. (ap length c.as_slice-legs.ensures i, copies i)) c.parse_trace.ensures
