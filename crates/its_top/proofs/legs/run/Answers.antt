use Rattle.std.proofs.Common.{arith, ◌<◌, ℕ, List, [], length, drop, ◌+◌, sym, ap, subst, ◌∙◌}
use Rattle.std.specs.String.{string_bytes}
use Rattle.its_types.specs.declared.machine.Limits.{Limits}
use Rattle.its_turns.specs.Machines.{setup}
use Rattle.its_answers.specs.Answered.{IsSoFar, LegStops, LegEnds}
use Rattle.its_answers.proofs.Explained.{stops_line, ends_line}
use Rattle.its_top.proofs.Runs.{leg_may}
use Rattle.its_answers.proofs.Scripts.{move_below, earlier_leg, final_leg, leg_behind, stops_here, ends_here, goes_on_at, so_far, on_err}
use Rattle.its_top.proofs.legs.run.Goals as goal

pub run_leg-requires-clause-phases : goal.run_leg-requires-clause-phases
run_leg-requires-clause-phases g c κs within =
    let script = c.args.script.now in let l = c.loop-leg in let i = l.leg-index in
    let at = earlier_leg script.legs c.as_slice-legs.result.now i c.leg-item.result c.as_slice.result.now c.as_slice-legs.ensures c.loop-leg-test.true
    c.leg-item.is c.as_slice.ensures in
    (leg_may script i c.leg-item.result c.as_slice.result.now l.now.machine l.invariant.ready.within at.lt at.at c.as_slice.ensures
    l.invariant.ready.desc).0

pub run_leg-requires-clause-threads : goal.run_leg-requires-clause-threads
run_leg-requires-clause-threads g c κs within =
    let script = c.args.script.now in let l = c.loop-leg in let i = l.leg-index in
    let at = earlier_leg script.legs c.as_slice-legs.result.now i c.leg-item.result c.as_slice.result.now c.as_slice-legs.ensures c.loop-leg-test.true
    c.leg-item.is c.as_slice.ensures in
    (leg_may script i c.leg-item.result c.as_slice.result.now l.now.machine l.invariant.ready.within at.lt at.at c.as_slice.ensures
    l.invariant.ready.desc).1

pub run_leg-requires-clause-may : goal.run_leg-requires-clause-may
run_leg-requires-clause-may g c κs within =
    let script = c.args.script.now in let l = c.loop-leg in let i = l.leg-index in
    let at = earlier_leg script.legs c.as_slice-legs.result.now i c.leg-item.result c.as_slice.result.now c.as_slice-legs.ensures c.loop-leg-test.true
    c.leg-item.is c.as_slice.ensures in
    (leg_may script i c.leg-item.result c.as_slice.result.now l.now.machine l.invariant.ready.within at.lt at.at c.as_slice.ensures
    l.invariant.ready.desc).2

pub returns-in-Ends-clause-ok : goal.returns-in-Ends-clause-ok
returns-in-Ends-clause-ok g c =
    let script = c.args.script.now in let l = c.loop-leg in let leg = c.as_slice.result.now in let u = (setup l.now.machine).start in
    let old = string_bytes l.report in let new = string_bytes c.run_leg.new.report in let e = c.in-Ends.ending in
    let at = earlier_leg script.legs c.as_slice-legs.result.now l.leg-index c.leg-item.result leg c.as_slice-legs.ensures c.loop-leg-test.true c.leg-item.is
    c.as_slice.ensures in
    let next = leg_behind script.legs l.leg-index leg at.behind at.left in
    let told = rw c.in-Ends.is at c.in_ok-next.ensures.ok in
    let stops : LegStops script.desc.limits.place_last u leg l.number old new e.status (string_bytes e.line) =
    subst (λ (x : Limits). LegStops x.place_last u leg l.number old new e.status (string_bytes e.line)) l.invariant.ready.limits told in
    stops_here script (setup c.args.first.machine).start l.leg-index l.number u old new (string_bytes e.line) leg next.0 next.1 e.status l.invariant.ran
    l.invariant.number next.2 stops

pub returns-in-Ends-clause-line : goal.returns-in-Ends-clause-line
returns-in-Ends-clause-line g c =
    let l = c.loop-leg in let leg = c.as_slice.result.now in let e = c.in-Ends.ending in let s = setup l.now.machine in
    let old = string_bytes l.report in let new = string_bytes c.run_leg.new.report in
    let told = rw c.in-Ends.is at c.in_ok-next.ensures.ok in
    stops_line s.limits.place_last s.start leg l.number old new (string_bytes e.line) e.status told

pub bounds-moves-number : goal.bounds-moves-number
bounds-moves-number g c =
    let l = c.loop-leg in let ready = l.invariant.ready in let script = c.args.script.now in
    let low : l.leg-index < length script.moves = move_below script c.as_slice-legs.result.now l.leg-index ready.within c.as_slice-legs.ensures
    c.loop-leg-test.true in
    omega (arith, low, l.invariant.number, ap length c.as_slice-moves.ensures)

pub loop-leg-preserved : goal.loop-leg-preserved
loop-leg-preserved g c =
    let script = c.args.script.now in let l = c.loop-leg in let leg = c.as_slice.result.now in let u = (setup l.now.machine).start in let w =
    (setup c.in-On.next.machine).start in
    let old = string_bytes l.report in let new = string_bytes c.run_leg.new.report in let ready = l.invariant.ready in
    let at = earlier_leg script.legs c.as_slice-legs.result.now l.leg-index c.leg-item.result leg c.as_slice-legs.ensures c.loop-leg-test.true c.leg-item.is
    c.as_slice.ensures in
    let told = rw c.in-On.is at c.in_ok-next.ensures.ok in
    let below : l.leg-index < length script.moves = move_below script c.as_slice-legs.result.now l.leg-index ready.within c.as_slice-legs.ensures
    c.loop-leg-test.true in
    record {
      number = omega (arith, l.invariant.number);
      ready = record {
        within = ready.within;
        fresh = told.0.fresh;
        limits = told.0.limits ∙ ready.limits;
        desc = record { base = ready.desc.base; made_is = ready.desc.made_is; kept = told.0.desc ∙ ready.desc.kept };
      };
      ran = goes_on_at script (setup c.args.first.machine).start l.leg-index l.number u w old new leg c.as_slice-moves.result.now
          (setup l.now.machine).limits _ l.invariant.ran l.invariant.number at.left below c.as_slice-moves.ensures ready.limits told.1;
    }

pub run_last_leg-requires-clause-phases : goal.run_last_leg-requires-clause-phases
run_last_leg-requires-clause-phases g c κs within =
    let script = c.args.script.now in let l = c.loop-leg in let ready = l.invariant.ready in
    let at = final_leg script.legs c.as_slice-legs.result.now l.leg-index c.index-legs-end.result c.as_slice-leg.result.now c.as_slice-legs.ensures
    ready.within.some_legs c.loop-leg-test.false l.auto.leg-index-end c.index-legs-end.is c.as_slice-leg.ensures in
    (leg_may script l.leg-index c.index-legs-end.result c.as_slice-leg.result.now l.now.machine ready.within at.lt at.at c.as_slice-leg.ensures
    ready.desc).0

pub run_last_leg-requires-clause-threads : goal.run_last_leg-requires-clause-threads
run_last_leg-requires-clause-threads g c κs within =
    let script = c.args.script.now in let l = c.loop-leg in let ready = l.invariant.ready in
    let at = final_leg script.legs c.as_slice-legs.result.now l.leg-index c.index-legs-end.result c.as_slice-leg.result.now c.as_slice-legs.ensures
    ready.within.some_legs c.loop-leg-test.false l.auto.leg-index-end c.index-legs-end.is c.as_slice-leg.ensures in
    (leg_may script l.leg-index c.index-legs-end.result c.as_slice-leg.result.now l.now.machine ready.within at.lt at.at c.as_slice-leg.ensures
    ready.desc).1

pub run_last_leg-requires-clause-may : goal.run_last_leg-requires-clause-may
run_last_leg-requires-clause-may g c κs within =
    let script = c.args.script.now in let l = c.loop-leg in let ready = l.invariant.ready in
    let at = final_leg script.legs c.as_slice-legs.result.now l.leg-index c.index-legs-end.result c.as_slice-leg.result.now c.as_slice-legs.ensures
    ready.within.some_legs c.loop-leg-test.false l.auto.leg-index-end c.index-legs-end.is c.as_slice-leg.ensures in
    (leg_may script l.leg-index c.index-legs-end.result c.as_slice-leg.result.now l.now.machine ready.within at.lt at.at c.as_slice-leg.ensures
    ready.desc).2

pub returns-clause-ok : goal.returns-clause-ok
returns-clause-ok g c =
    let script = c.args.script.now in let l = c.loop-leg in let leg = c.as_slice-leg.result.now in let u = (setup l.now.machine).start in let ready =
    l.invariant.ready in
    let old = string_bytes l.report in let new = string_bytes c.run_last_leg.new.report in let e = c.in_ok-ending.ending in
    let at = final_leg script.legs c.as_slice-legs.result.now l.leg-index c.index-legs-end.result leg c.as_slice-legs.ensures ready.within.some_legs
    c.loop-leg-test.false l.auto.leg-index-end c.index-legs-end.is c.as_slice-leg.ensures in
    let ends : LegEnds script.desc.limits.place_last u leg l.number old new e.status (string_bytes e.line) =
    subst (λ (x : Limits). LegEnds x.place_last u leg l.number old new e.status (string_bytes e.line)) ready.limits c.in_ok-ending.ensures.ok in
    ends_here script (setup c.args.first.machine).start l.leg-index l.number u old new (string_bytes e.line) leg e.status l.invariant.ran l.invariant.number
    at.left ends

pub returns-clause-line : goal.returns-clause-line
returns-clause-line g c =
    let l = c.loop-leg in let leg = c.as_slice-leg.result.now in let e = c.in_ok-ending.ending in let s = setup l.now.machine in
    let old = string_bytes l.report in let new = string_bytes c.run_last_leg.new.report in
    ends_line s.limits.place_last s.start leg l.number old new (string_bytes e.line) e.status c.in_ok-ending.ensures.ok

pub returns-in_err-next-clause-err : goal.returns-in_err-next-clause-err
returns-in_err-next-clause-err g c =
    let script = c.args.script.now in let l = c.loop-leg in let leg = c.as_slice.result.now in let first = (setup c.args.first.machine).start in
    let at = earlier_leg script.legs c.as_slice-legs.result.now l.leg-index c.leg-item.result leg c.as_slice-legs.ensures c.loop-leg-test.true c.leg-item.is
    c.as_slice.ensures in
    let told = so_far script first l.leg-index (setup l.now.machine).start (string_bytes l.report) leg (drop (l.leg-index + 1) script.legs) l.invariant.ran
    at.left in
    on_err _ (IsSoFar script first (string_bytes c.run_leg.new.report)) (subst (λ (t : List ℕ). IsSoFar script first t) (sym c.in_err-next.ensures.err) told)

pub returns-in_err-ending-clause-err : goal.returns-in_err-ending-clause-err
returns-in_err-ending-clause-err g c =
    let script = c.args.script.now in let l = c.loop-leg in let leg = c.as_slice-leg.result.now in let first = (setup c.args.first.machine).start in
    let at = final_leg script.legs c.as_slice-legs.result.now l.leg-index c.index-legs-end.result leg c.as_slice-legs.ensures l.invariant.ready.within.some_legs
    c.loop-leg-test.false l.auto.leg-index-end c.index-legs-end.is c.as_slice-leg.ensures in
    let told = so_far script first l.leg-index (setup l.now.machine).start (string_bytes l.report) leg [] l.invariant.ran at.left in
    on_err _ (IsSoFar script first (string_bytes c.run_last_leg.new.report))
    (subst (λ (t : List ℕ). IsSoFar script first t) (sym c.in_err-ending.ensures.err) told)
