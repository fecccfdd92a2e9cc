use Rattle.std.proofs.Common.{◌≡◌, ◌+◌, ◌∙◌, map, true, false, sym, ap, subst, arith}
use Rattle.event_script.specs.Text.{parts, fields}
use Rattle.event_script.specs.Script.{line, at_line, ◌then◌, begins_report, check_from, IsCheckAnswer}
use Rattle.event_script.specs.declared.draft.Draft.{Draft}
use Rattle.event_script.proofs.Reports.{begun, goes_on, fails_at}
use Rattle.event_script.proofs.reading.read_check.Goals as goal

pub returns-then-branch : goal.returns-then-branch
returns-then-branch c =
    let l = c.loop-line in
    let first = c.in-Some.line.now in
    let begins : begins_report l.draft first ≡ true = sym c.in_ok-begins_report.ensures.value ∙ c.if-branch.true in
    let same : map (λ f. f.now) c.deref.result.now ≡ fields first = ap (map (λ f. f.now)) c.deref.ensures.value
    ∙ c.in_ok-begins_report.ensures.split c.if-branch.true in
    subst (IsCheckAnswer c.trace_line.result)
    (sym (l.invariant.read ∙ begun l.number l.draft l.rest.now first c.in-Some.more.now (map (λ f. f.now) c.deref.result.now) c.in-Some.ensures.first begins
    same))
    c.trace_line.ensures

pub returns-in-Err : goal.returns-in-Err
returns-in-Err c =
    let l = c.loop-line in
    let first = c.in-Some.line.now in
    let other : begins_report l.draft first ≡ false = sym c.in_ok-begins_report.ensures.value ∙ c.if-branch.false in
    rw c.at.ensures (fails_at l.number c.in-Err.error (line l.draft l.number first) (λ (e : Draft). check_from (l.number + 1) e (parts c.in-Some.more.now)) _
    c.in-Err.ensures
    (l.invariant.read ∙ goes_on l.number l.draft l.rest.now first c.in-Some.more.now c.in-Some.ensures.first other))

pub loop-line-preserved : goal.loop-line-preserved
loop-line-preserved c =
    let l = c.loop-line in
    let first = c.in-Some.line.now in
    let other : begins_report l.draft first ≡ false = sym c.in_ok-begins_report.ensures.value ∙ c.if-branch.false in
    record {
      read = l.invariant.read ∙ goes_on l.number l.draft l.rest.now first c.in-Some.more.now c.in-Some.ensures.first other
          ∙ ap (λ r. at_line l.number r then λ (e : Draft). check_from (l.number + 1) e (parts c.in-Some.more.now)) c.in_default-line.ensures;
      small = omega (arith, l.invariant.small, c.in-Some.ensures.shorter);
    }
