use Rattle.trace_check.specs.Fields.{progress}
use Rattle.report_places.proofs.Follows.{going_none, going_more, going_all}
use Rattle.report_places.proofs.place.follow.Goals as goal

pub loop-line-init : goal.loop-line-init
loop-line-init c = record {
  counted = c.in_ok-cursor.ensures.counted;
  run_so_far = going_none c.args.machine.now c.args.leg.now c.args.entries.now (progress c.in_ok-cursor.cursor) c.in_ok-cursor.ensures.at;
}

pub loop-line-preserved : goal.loop-line-preserved
loop-line-preserved c =
    let l = c.loop-line in
    record {
      counted = c.in_ok-make_next.ensures.counted;
      run_so_far = going_more c.args.machine.now c.args.leg.now c.args.entries.now l.line-index l.machine (progress l.cursor) l.invariant.run_so_far
          c.line-item.result c.make_next.new.machine (progress c.make_next.new.cursor) c.loop-line-test.true c.line-item.is c.in_ok-make_next.ensures.next;
    }

pub returns : goal.returns
returns c =
    let l = c.loop-line in
    going_all c.args.machine.now c.args.leg.now c.args.entries.now l.line-index l.machine (progress l.cursor) l.invariant.run_so_far c.loop-line-test.false
