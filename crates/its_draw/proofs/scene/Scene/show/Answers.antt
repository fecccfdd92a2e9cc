use Rattle.std.proofs.Common.{◌≡◌, ◌<◌, ◌≤◌, List, length, get_or, subst}
use Rattle.its_history.specs.declared.trace.Leg.{Leg as LegLines}
use Rattle.its_draw.proofs.Legs.{told_none, told_leg, showing_none, showing_more, showing_all}
use Rattle.its_draw.proofs.scene.Scene.show.Goals as goal

pub loop-index-init : goal.loop-index-init
loop-index-init c = record {
  told_so_far = told_none c.args.self.now.calls.items;
  run_so_far = showing_none c.args.self.now.machine c.args.script.now c.args.trace.now.legs c.args.self.now.calls.items;
}

pub loop-index-preserved : goal.loop-index-preserved
loop-index-preserved c =
    let l = c.loop-index in let legs = c.args.trace.now.legs in let before = c.args.self.now.calls.items in
    let t = c.lines-item.result in let now = c.show_leg.new.self in
    let lists = c.as_slice-lines-items.ensures in
    let lt : l.index < length legs = subst (λ (ts : List LegLines). l.index < length ts) lists c.loop-index-test.true in
    let at : t ≡ get_or legs l.index t = subst (λ (ts : List LegLines). t ≡ get_or ts l.index t) lists c.lines-item.is in
    rw c.in_ok-move_on.ensures.calls (record {
      told_so_far = told_leg legs l.index t lt at before l.self.calls.items now.calls.items l.invariant.told_so_far c.in_ok-show_leg.ensures.told;
      run_so_far = showing_more c.args.self.now.machine c.args.script.now legs before l.index l.self.calls.items l.self.machine l.invariant.run_so_far
          c.leg_at-leg.result.now t now.calls.items now.machine c.move_on.new.self.machine c.leg_at-leg.ensures lt at c.in_ok-show_leg.ensures.run
          c.in_ok-move_on.ensures.moved;
    })

pub returns-clause-run : goal.returns-clause-run
returns-clause-run c =
    let l = c.loop-index in let legs = c.args.trace.now.legs in
    showing_all c.args.self.now.machine c.args.script.now legs c.args.self.now.calls.items l.index l.self.calls.items l.self.machine l.invariant.run_so_far
    (subst (λ (ts : List LegLines). length ts ≤ l.index) c.as_slice-lines-items.ensures c.loop-index-test.false)
