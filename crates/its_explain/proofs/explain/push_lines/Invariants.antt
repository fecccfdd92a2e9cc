use Rattle.its_explain.specs.Since.{Tells}
use Rattle.its_explain.proofs.explain.push_lines.Given as goal

-- as far as the loop has come
abbrev pub invariant-loop-line : goal.invariant-loop-line
invariant-loop-line l = Tells l.fn.story.book l.fn.story.machine l.story.book l.story.machine
