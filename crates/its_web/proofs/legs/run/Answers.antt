use Rattle.std.proofs.Common.{arith, refl, ◌<◌, List, ℕ, length, ap}
use Rattle.std.specs.String.{string_bytes}
use Rattle.its_answers.specs.Answered.{LegStops}
use Rattle.its_answers.proofs.Explained.{stops_line, ends_line}
use Rattle.its_answers.proofs.Scripts.{move_below, earlier_leg, final_leg, leg_behind, stops_here, ends_here, goes_on_at}
use Rattle.its_web.proofs.Small.{script_few}
use Rattle.its_web.proofs.legs.run.Goals as goal

pub run_leg-requires-clause-phases : goal.run_leg-requires-clause-phases
run_leg-requires-clause-phases c =
    let script = c.args.script.now in let i = c.loop-leg.leg-index in
    let at = earlier_leg script.legs c.as_slice-legs.result.now i c.leg-item.result c.as_slice-phases.result.now c.as_slice-legs.ensures c.loop-leg-test.true
    c.leg-item.is c.as_slice-phases.ensures in
    (script_few script i c.leg-item.result c.as_slice-phases.result.now c.requires.within at.lt at.at c.as_slice-phases.ensures).0

pub run_leg-requires-clause-threads : goal.run_leg-requires-clause-threads
run_leg-requires-clause-threads c =
    let script = c.args.script.now in let i = c.loop-leg.leg-index in
    let at = earlier_leg script.legs c.as_slice-legs.result.now i c.leg-item.result c.as_slice-phases.result.now c.as_slice-legs.ensures c.loop-leg-test.true
    c.leg-item.is c.as_slice-phases.ensures in
    (script_few script i c.leg-item.result c.as_slice-phases.result.now c.requires.within at.lt at.at c.as_slice-phases.ensures).1

pub bounds-moves-number : goal.bounds-moves-number
bounds-moves-number c =
    let l = c.loop-leg in let script = c.args.script.now in
    let low : l.leg-index < length script.moves = move_below script c.as_slice-legs.result.now l.leg-index c.requires.within c.as_slice-legs.ensures
    c.loop-leg-test.true in
    omega (arith, low, l.invariant.number, ap length c.as_slice-moves.ensures)

pub returns-in-Some-clause-ok : goal.returns-in-Some-clause-ok
returns-in-Some-clause-ok c =
    let script = c.args.script.now in let l = c.loop-leg in let leg = c.as_slice-phases.result.now in
    let old = string_bytes l.report in let new = string_bytes c.run_leg.new.report in let e = c.in-Some.ending in
    let at = earlier_leg script.legs c.as_slice-legs.result.now l.leg-index c.leg-item.result leg c.as_slice-legs.ensures c.loop-leg-test.true c.leg-item.is
    c.as_slice-phases.ensures in
    let next = leg_behind script.legs l.leg-index leg at.behind at.left in
    let stops : LegStops script.desc.limits.place_last l.machine leg l.number old new e.status (string_bytes e.line) =
    rw c.in-Some.is at c.in_ok-ending.ensures in
    stops_here script c.args.machine.now l.leg-index l.number l.machine old new (string_bytes e.line) leg next.0 next.1 e.status l.invariant.ran
    l.invariant.number next.2 stops

pub returns-in-Some-clause-line : goal.returns-in-Some-clause-line
returns-in-Some-clause-line c =
    let script = c.args.script.now in let l = c.loop-leg in let leg = c.as_slice-phases.result.now in let e = c.in-Some.ending in
    let old = string_bytes l.report in let new = string_bytes c.run_leg.new.report in
    let stops : LegStops script.desc.limits.place_last l.machine leg l.number old new e.status (string_bytes e.line) =
    rw c.in-Some.is at c.in_ok-ending.ensures in
    stops_line script.desc.limits.place_last l.machine leg l.number old new (string_bytes e.line) e.status stops

pub loop-leg-preserved : goal.loop-leg-preserved
loop-leg-preserved c =
    let script = c.args.script.now in let l = c.loop-leg in let leg = c.as_slice-phases.result.now in
    let old = string_bytes l.report in let new = string_bytes c.run_leg.new.report in
    let at = earlier_leg script.legs c.as_slice-legs.result.now l.leg-index c.leg-item.result leg c.as_slice-legs.ensures c.loop-leg-test.true c.leg-item.is
    c.as_slice-phases.ensures in
    let below : l.leg-index < length script.moves = move_below script c.as_slice-legs.result.now l.leg-index c.requires.within c.as_slice-legs.ensures
    c.loop-leg-test.true in
    record {
      number = omega (arith, l.invariant.number);
      ran = goes_on_at script c.args.machine.now l.leg-index l.number l.machine c.run_leg.new.machine old new leg c.as_slice-moves.result.now
          script.desc.limits _ l.invariant.ran l.invariant.number at.left below c.as_slice-moves.ensures refl (rw c.in_default.is at c.in_ok-ending.ensures);
    }

pub run_last_leg-requires-clause-phases : goal.run_last_leg-requires-clause-phases
run_last_leg-requires-clause-phases c =
    let script = c.args.script.now in let l = c.loop-leg in let within = c.requires.within in
    let at = final_leg script.legs c.as_slice-legs.result.now l.leg-index c.index-legs-end.result c.as_slice-phases-2.result.now c.as_slice-legs.ensures
    within.some_legs c.loop-leg-test.false l.auto.leg-index-end c.index-legs-end.is c.as_slice-phases-2.ensures in
    (script_few script l.leg-index c.index-legs-end.result c.as_slice-phases-2.result.now within at.lt at.at c.as_slice-phases-2.ensures).0

pub run_last_leg-requires-clause-threads : goal.run_last_leg-requires-clause-threads
run_last_leg-requires-clause-threads c =
    let script = c.args.script.now in let l = c.loop-leg in let within = c.requires.within in
    let at = final_leg script.legs c.as_slice-legs.result.now l.leg-index c.index-legs-end.result c.as_slice-phases-2.result.now c.as_slice-legs.ensures
    within.some_legs c.loop-leg-test.false l.auto.leg-index-end c.index-legs-end.is c.as_slice-phases-2.ensures in
    (script_few script l.leg-index c.index-legs-end.result c.as_slice-phases-2.result.now within at.lt at.at c.as_slice-phases-2.ensures).1

pub returns-clause-ok : goal.returns-clause-ok
returns-clause-ok c =
    let script = c.args.script.now in let l = c.loop-leg in let leg = c.as_slice-phases-2.result.now in
    let old = string_bytes l.report in let new = string_bytes c.run_last_leg.new.report in let e = c.in_ok-ending-2.ending in
    let at = final_leg script.legs c.as_slice-legs.result.now l.leg-index c.index-legs-end.result leg c.as_slice-legs.ensures c.requires.within.some_legs
    c.loop-leg-test.false l.auto.leg-index-end c.index-legs-end.is c.as_slice-phases-2.ensures in
    ends_here script c.args.machine.now l.leg-index l.number l.machine old new (string_bytes e.line) leg e.status l.invariant.ran l.invariant.number
    at.left c.in_ok-ending-2.ensures

pub returns-clause-line : goal.returns-clause-line
returns-clause-line c =
    let script = c.args.script.now in let l = c.loop-leg in let leg = c.as_slice-phases-2.result.now in let e = c.in_ok-ending-2.ending in
    let old = string_bytes l.report in let new = string_bytes c.run_last_leg.new.report in
    ends_line script.desc.limits.place_last l.machine leg l.number old new (string_bytes e.line) e.status c.in_ok-ending-2.ensures
