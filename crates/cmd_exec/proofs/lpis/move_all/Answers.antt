use Rattle.std.proofs.Common.{Some, sym, ap, ◌∙◌}
use Rattle.std.proofs.lemmas.Bool.{eqb-false}
use Rattle.cmd_exec.proofs.InHand.{moved_all, taken_on}
use Rattle.cmd_exec.proofs.lpis.move_all.Goals as goal

pub returns : goal.returns
returns c =
    let from = c.args.from.0 in let to = c.args.to.0 in
    let s = c.deref_mut.result.now in
    let t = c.pend_mut-target.result.now in
    moved_all c.args.redists.now c.take_pend-source.new.self c.place_pend.new.self from to s t c.move_all.new.self c.move_all.new.to
    (eqb-false from to (sym c.if-eq.ensures))
    (c.take_pend-source.ensures.value ∙ ap Some (sym c.deref_mut.ensures.value)) c.take_pend-source.ensures.taken c.pend_mut-target.ensures.value
    c.move_all.ensures.left c.move_all.ensures.moved c.place_pend.ensures.placed

pub move_all-requires-clause-on : goal.move_all-requires-clause-on
move_all-requires-clause-on c =
    let from = c.args.from.0 in let to = c.args.to.0 in
    taken_on c.args.redists.now c.take_pend-source.new.self from to c.pend_mut-target.result.now (eqb-false from to (sym c.if-eq.ensures))
    c.take_pend-source.ensures.taken c.pend_mut-target.ensures.value c.requires.on
