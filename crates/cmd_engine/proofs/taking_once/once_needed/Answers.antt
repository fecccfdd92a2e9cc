use Rattle.std.proofs.Common.{refl, sym, ◌∙◌}
use Rattle.its_turns.specs.Machines.{setup, view}
use Rattle.held_parts.specs.Redists.{IsRedistIn}
use Rattle.held_parts.proofs.Once.{once_wider, once_takes, busy_wider, busy_held}
use Rattle.cmd_engine.specs.Hands.{IsOfTranslator, IsOfStep}
use Rattle.cmd_engine.proofs.Getting.{base_order, confs_order, pends_order, needed_in_hand, targets_of, low_kept, own_of_step}
use Rattle.cmd_engine.proofs.Kept.{kept_in_hand, kept_memory, freed_in_hand, no_redists, places_room, redist_of_step}
use Rattle.cmd_engine.proofs.Trying.{once_goes_wider, gives_up_wider, at_once_then, takes_goes, gave_first, gave_then}
use Rattle.cmd_engine.proofs.taking_once.once_needed.Goals as goal

pub needs-needed-requires : goal.needs-needed-requires
needs-needed-requires c = let h = c.args.hands.now in record {
  targets = rw (c.deref-3.ensures) (targets_of (setup c.args.machine.now) h.its h.translator.value c.desc.result.now.shape c.requires.stood
      c.desc.ensures.shape);
}

pub once_cached-requires-clause-order : goal.once_cached-requires-clause-order
once_cached-requires-clause-order c = base_order (setup c.args.machine.now) (view c.args.pass.now) c.args.hands.now c.requires.hands c.requires.base

-- no shard was free
pub returns-in-Err-clause-hands : goal.returns-in-Err-clause-hands
returns-in-Err-clause-hands c = let lacks = c.in-Err.ensures.result in
    kept_in_hand (setup c.args.machine.now) (view c.args.pass.now) (view c.once_cached.new.pass) c.args.hands.now c.once_cached.new.cached
    c.requires.hands (c.requires.base.bare.cached_is ∙ sym lacks.none) lacks.held

pub returns-in-Err-clause-same : goal.returns-in-Err-clause-same
returns-in-Err-clause-same c = record { its = refl; translator = refl; memory = kept_memory c.args.hands.now.memory }

pub returns-in-Err-clause-result : goal.returns-in-Err-clause-result
returns-in-Err-clause-result c = let its = c.args.hands.now.its in
    gives_up_wider (IsOfTranslator its) (IsOfStep its) (own_of_step its) (view c.args.pass.now) (view c.once_cached.new.pass) c.in-Err.busy
    c.in-Err.ensures.result.gives_up

pub once_parts-requires-clause-empty : goal.once_parts-requires-clause-empty
once_parts-requires-clause-empty c = no_redists (setup c.args.machine.now) (view c.args.pass.now) c.args.hands.now c.requires.hands c.requires.base

pub once_parts-requires-clause-before_confs : goal.once_parts-requires-clause-before_confs
once_parts-requires-clause-before_confs c =
    confs_order (setup c.args.machine.now) (view c.args.pass.now) c.args.hands.now c.requires.hands c.requires.base
    (view c.once_cached.new.pass) c.once_cached.new.cached c.in-Ok.ensures.result.held

pub once_parts-requires-clause-before_pends : goal.once_parts-requires-clause-before_pends
once_parts-requires-clause-before_pends c =
    pends_order (setup c.args.machine.now) (view c.args.pass.now) c.args.hands.now c.requires.hands c.requires.base
    (view c.once_cached.new.pass) c.once_cached.new.cached c.in-Ok.ensures.result.held

pub returns-in-Ok-once_parts-clause-hands : goal.returns-in-Ok-once_parts-clause-hands
returns-in-Ok-once_parts-clause-hands c =
    let got = c.in-Ok.ensures.result in let then = c.in-Ok-once_parts.ensures.result in
    let s = setup c.args.machine.now in let m = c.once_parts.new.memory in
    needed_in_hand s (view c.args.pass.now) c.args.hands.now c.requires.hands c.requires.base
    (view c.once_cached.new.pass) (view c.once_parts.new.pass) c.once_cached.new.cached c.needs-needed.result m
    got.held got.whole then.1 c.once_parts.ensures.same then.2.confs then.2.pends (places_room s m then.2.places)

pub returns-in-Ok-once_parts-clause-result : goal.returns-in-Ok-once_parts-clause-result
returns-in-Ok-once_parts-clause-result c =
    let its = c.args.hands.now.its in let v = view c.args.pass.now in let x = view c.once_cached.new.pass in let y = view c.once_parts.new.pass in
    let n = c.needs-needed.result in let got = c.in-Ok.ensures.result in let P = IsOfStep its in
    let takes = once_wider (IsRedistIn n.confs n.pends) P (redist_of_step its n.confs n.pends) x y c.in-Ok-once_parts.ensures.result.0 in record {
      goes = at_once_then P v x y (once_goes_wider (IsOfTranslator its) P (own_of_step its) v x got.goes) (takes_goes P x y takes);
      low = λ any. low_kept P v x y its (got.low any) (once_takes P x y takes);
    }

pub returns-in-Err-once_parts-clause-hands : goal.returns-in-Err-once_parts-clause-hands
returns-in-Err-once_parts-clause-hands c =
    let got = c.in-Ok.ensures.result in let n = c.needs-needed.result in let f = c.in-Err-once_parts.ensures.result in
    let s = setup c.args.machine.now in let m = c.once_parts.new.memory in
    freed_in_hand s (view c.args.pass.now) c.args.hands.now c.requires.hands c.requires.base
    (view c.once_cached.new.pass) (view c.once_parts.new.pass) c.once_cached.new.cached m got.held got.whole
    (busy_held (IsRedistIn n.confs n.pends) (view c.once_cached.new.pass) (view c.once_parts.new.pass) c.in-Err-once_parts.busy f.0)
    c.once_parts.ensures.same f.1.confs f.1.pends (places_room s m f.1.places)

pub returns-in-Err-once_parts-clause-result : goal.returns-in-Err-once_parts-clause-result
returns-in-Err-once_parts-clause-result c =
    let its = c.args.hands.now.its in let v = view c.args.pass.now in let x = view c.once_cached.new.pass in let y = view c.once_parts.new.pass in
    let n = c.needs-needed.result in let b = c.in-Err-once_parts.busy in let P = IsOfStep its in
    gave_then P v x y b (once_goes_wider (IsOfTranslator its) P (own_of_step its) v x c.in-Ok.ensures.result.goes)
    (gave_first P x y b (busy_wider (IsRedistIn n.confs n.pends) P (redist_of_step its n.confs n.pends) x y b c.in-Err-once_parts.ensures.result.0))
