use Rattle.std.proofs.Common.{◌≡◌, ℕ, List, [], ◌∷◌, sym, ap, subst, ◌∙◌}
use Rattle.its_types.specs.declared.translation.Event.{Event}
use Rattle.its_maps.specs.Walks.{events_left}
use Rattle.cmd_exec.specs.InHand.{lpis_moved_in}
use Rattle.cmd_exec.specs.Ready.{TakesAll}
use Rattle.cmd_exec.specs.Walked.{lpis_of}
use Rattle.cmd_exec.proofs.Walks.{lpis_first, moved_some, on_more, takes_more}
use Rattle.cmd_exec.proofs.collections.move_lpis_of.Goals as goal

pub loop-event-preserved-then-eq : goal.loop-event-preserved-then-eq
loop-event-preserved-then-eq c =
    let icid = c.args.icid.0 in let from = c.args.from.0 in let to = c.args.to.0 in
    let rs = c.loop-event.redists in let now = c.move_lpi.new.redists in
    let event = c.in-Some.event in let x = event.intid.0 in let rest = lpis_of (events_left c.next.new.self) icid in
    let is : lpis_of (events_left c.loop-event.event-iterator) icid ≡ x ∷ rest =
    ap (λ (es : List (ℕ × Event)). lpis_of es icid) c.in-Some.ensures.steps ∙ lpis_first c.in-Some.field-0-0.0 event (events_left c.next.new.self) icid
    (sym c.if-eq.ensures) in
    record {
      rest = moved_some (x ∷ []) rest from to rs now c.move_lpi.ensures ∙ ap (λ (xs : List ℕ). lpis_moved_in xs from to rs) (sym is)
          ∙ c.loop-event.invariant.rest;
      from = takes_more (x ∷ []) rest from to from rs now c.move_lpi.ensures (subst (TakesAll rs from) is c.loop-event.invariant.from);
      to = takes_more (x ∷ []) rest from to to rs now c.move_lpi.ensures (subst (TakesAll rs to) is c.loop-event.invariant.to);
      on = on_more (x ∷ []) from to to rs now c.move_lpi.ensures c.loop-event.invariant.on;
    }
