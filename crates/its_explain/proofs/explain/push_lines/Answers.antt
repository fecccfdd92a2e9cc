use Rattle.its_explain.proofs.Since.{tells_both, tells_on}
use Rattle.its_explain.proofs.explain.push_lines.Goals as goal

pub loop-line-preserved : goal.loop-line-preserved
loop-line-preserved c =
    let s = c.args.story.now in
    let m = c.loop-line.story in
    let n = c.push_line.new.story in
    tells_both s.book m.book n.book s.machine m.machine n.machine c.loop-line.invariant c.in_ok-ended.ensures

pub returns-else-ended : goal.returns-else-ended
returns-else-ended c =
    let s = c.args.story.now in
    let m = c.loop-line.story in
    let n = c.push_stop.new.self in
    tells_on c.push_stop.result s.book m.book n.book s.machine m.machine n.machine c.loop-line.invariant c.push_stop.ensures
