use Rattle.std.proofs.Common.{refl, sym, ◌∙◌}
use Rattle.owned_parts.specs.Owned.{pend_state}
use Rattle.its_turns.specs.Machines.{setup, view}
use Rattle.gicr_lpi.proofs.Registers.{memory_enough, got_pend, pend_held, pend_busy}
use Rattle.gicr_lpi.proofs.free.try_hand.Goals as goal

pub returns-in-Ok-clause-result : goal.returns-in-Ok-clause-result
returns-in-Ok-clause-result c =
    let s = setup c.args.machine.now in let a = c.args.access in let v = view c.args.pass.now in let w = view c.try_registers.new.pass in
    let h = c.in_ok-hand.hand in let has = c.in_ok-hand.ensures.result in let x = view c.try_take_pend.new.pass in
    let p = pend_state c.in-Ok.pend.value in let takes = c.in-Ok.ensures.result.0.view in
    let asks = rw (c.deref.ensures) at (sym c.changes_pending.ensures ∙ c.if-not-changes_pending.false) in
    record {
      took = got_pend s a v w h has x p asks takes;
      held = pend_held s a v w h has x p takes;
      enough = record { memory = memory_enough s a v w h has; pend = λ _. refl };
      stood = has.stood;
      hand = record { places = has.hand.places; conf_lpis = has.hand.conf_lpis; pend_lpis = c.in-Ok.ensures.result.1; low = has.hand.low };
    }

pub returns-in-Err-clause-result : goal.returns-in-Err-clause-result
returns-in-Err-clause-result c =
    let asks = rw (c.deref.ensures) at (sym c.changes_pending.ensures ∙ c.if-not-changes_pending.false) in
    pend_busy (setup c.args.machine.now) c.args.access (view c.args.pass.now) (view c.try_registers.new.pass) c.in_ok-hand.hand
    c.in_ok-hand.ensures.result (view c.try_take_pend.new.pass) (view c.put_hand.new.pass) c.in-Err.busy asks c.requires.free c.in-Err.ensures.result
    c.put_hand.ensures.home
