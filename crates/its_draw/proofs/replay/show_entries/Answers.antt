use Rattle.std.proofs.Common.{refl}
use Rattle.trace_check.specs.Fields.{progress}
use Rattle.its_draw.proofs.Shows.{told_more, going_none, going_more, going_all}
use Rattle.its_draw.proofs.replay.show_entries.Goals as goal

pub loop-line-init : goal.loop-line-init
loop-line-init c =
    rw c.new-shown.ensures.items (record {
      shown_so_far = refl;
      counted = c.in_ok-cursor.ensures.counted;
      run_so_far = going_none c.args.machine.now c.args.leg.now c.args.entries.now (progress c.in_ok-cursor.cursor) c.in_ok-cursor.ensures.at;
    })

pub loop-line-preserved : goal.loop-line-preserved
loop-line-preserved c =
    let l = c.loop-line in
    rw c.in_ok-push.ensures.items (record {
      shown_so_far = told_more c.args.entries.now l.line-index c.line-item.result c.loop-line-test.true c.line-item.is l.shown.items c.in_ok-one.one
          l.invariant.shown_so_far c.in_ok-one.ensures.told;
      counted = c.in_ok-one.ensures.counted;
      run_so_far = going_more c.args.machine.now c.args.leg.now c.args.entries.now l.line-index l.shown.items l.machine (progress l.cursor)
          l.invariant.run_so_far c.line-item.result c.in_ok-one.one c.show_entry.new.machine (progress c.show_entry.new.cursor) c.loop-line-test.true
          c.line-item.is c.in_ok-one.ensures.next;
    })

pub returns-clause-run : goal.returns-clause-run
returns-clause-run c =
    let l = c.loop-line in
    going_all c.args.machine.now c.args.leg.now c.args.entries.now l.line-index l.shown.items l.machine (progress l.cursor) l.invariant.run_so_far
    c.loop-line-test.false
