use Rattle.its_explain.proofs.Since.{tells_both}
use Rattle.its_explain.proofs.explain.tell_lines.Goals as goal

pub loop-line-preserved : goal.loop-line-preserved
loop-line-preserved c =
    let s = c.args.story.now in
    let m = c.loop-line.story in
    let n = c.tell_line.new.story in
    tells_both s.book m.book n.book s.machine m.machine n.machine c.loop-line.invariant c.in_ok-tell_line.ensures

pub returns-then-eq : goal.returns-then-eq
returns-then-eq c =
    let s = c.args.story.now in
    let m = c.loop-line.story in
    let n = c.tell_line.new.story in
    tells_both s.book m.book n.book s.machine m.machine n.machine c.loop-line.invariant c.in_ok-tell_line.ensures
