use Rattle.std.proofs.Common.{◌∙◌, arith}
use Rattle.event_script.proofs.Lines.{read_on, read_fails}
use Rattle.event_script.proofs.reading.read_script.Goals as goal

pub returns-in-Err : goal.returns-in-Err
returns-in-Err c =
    rw (c.at.ensures, c.loop-line.invariant.read)
    (read_fails c.loop-line.number c.loop-line.draft c.loop-line.rest.now c.in-Some.line.now c.in-Some.more.now c.in-Err.error c.in-Some.ensures.first
    c.in-Err.ensures)

pub loop-line-preserved : goal.loop-line-preserved
loop-line-preserved c = record {
  read = c.loop-line.invariant.read ∙ read_on c.loop-line.number c.loop-line.draft c.line.new.self c.loop-line.rest.now c.in-Some.line.now c.in-Some.more.now
      c.in-Some.ensures.first c.in_default-line.ensures;
  small = omega (arith, c.loop-line.invariant.small, c.in-Some.ensures.shorter);
}
