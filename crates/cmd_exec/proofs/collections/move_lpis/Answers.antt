use Rattle.std.proofs.Common.{◌≡◌, ℕ, List, [], ◌++◌, sym, ap, subst, ◌∙◌}
use Rattle.std.specs.FinMap.{entries}
use Rattle.its_types.specs.declared.translation.Device.{Device}
use Rattle.its_types.specs.declared.translation.Event.{Event}
use Rattle.its_types.specs.Maps.{events_at}
use Rattle.cmd_exec.specs.InHand.{lpis_moved_in}
use Rattle.cmd_exec.specs.Ready.{TakesAll}
use Rattle.cmd_exec.specs.Walked.{lpis_of, lpis_of_all}
use Rattle.cmd_exec.proofs.Walks.{no_intids, moved_some, on_more, takes_first, takes_more}
use Rattle.cmd_exec.proofs.Order.{intids_are}
use Rattle.cmd_exec.proofs.collections.move_lpis.Goals as goal

pub loop-dev-init : goal.loop-dev-init
loop-dev-init c =
    let m = c.args.maps.now.maps in let icid = c.args.icid.0 in let rs = c.args.redists.now in let from = c.args.from.0 in let to = c.args.to.0 in
    let is : c.into_iter-dev-iterator.result ≡ entries m.devices = c.into_iter-dev-iterator.ensures.into_iter_gives ∙ c.devices-dev-items.ensures in
    let all : lpis_of_all m c.into_iter-dev-iterator.result icid ≡ lpis_of_all m (entries m.devices) icid =
    ap (λ (ds : List (ℕ × Device)). lpis_of_all m ds icid) is in
    record {
      rest = ap (λ (xs : List ℕ). lpis_moved_in xs from to rs) all;
      from = subst (TakesAll rs from) (intids_are m icid c.requires.devices ∙ sym all) c.requires.from;
      to = subst (TakesAll rs to) (intids_are m icid c.requires.devices ∙ sym all) c.requires.to;
      on = c.requires.on;
    }

pub move_lpis_of-requires-clause-from : goal.move_lpis_of-requires-clause-from
move_lpis_of-requires-clause-from c =
    let m = c.args.maps.now.maps in let icid = c.args.icid.0 in let rs = c.loop-dev.redists in let from = c.args.from.0 in
    let here = lpis_of (events_at m c.in-Some.dev.0) icid in let rest = lpis_of_all m c.next.new.self icid in
    let is : lpis_of_all m c.loop-dev.dev-iterator icid ≡ here ++ rest = ap (λ (ds : List (ℕ × Device)). lpis_of_all m ds icid) c.in-Some.ensures.steps in
    let takes : TakesAll rs from here = takes_first rs from here rest (subst (TakesAll rs from) is c.loop-dev.invariant.from) in
    subst (λ (es : List (ℕ × Event)). TakesAll rs from (lpis_of es icid)) (sym c.events.ensures) takes

pub move_lpis_of-requires-clause-to : goal.move_lpis_of-requires-clause-to
move_lpis_of-requires-clause-to c =
    let m = c.args.maps.now.maps in let icid = c.args.icid.0 in let rs = c.loop-dev.redists in let to = c.args.to.0 in
    let here = lpis_of (events_at m c.in-Some.dev.0) icid in let rest = lpis_of_all m c.next.new.self icid in
    let is : lpis_of_all m c.loop-dev.dev-iterator icid ≡ here ++ rest = ap (λ (ds : List (ℕ × Device)). lpis_of_all m ds icid) c.in-Some.ensures.steps in
    let takes : TakesAll rs to here = takes_first rs to here rest (subst (TakesAll rs to) is c.loop-dev.invariant.to) in
    subst (λ (es : List (ℕ × Event)). TakesAll rs to (lpis_of es icid)) (sym c.events.ensures) takes

pub loop-dev-preserved : goal.loop-dev-preserved
loop-dev-preserved c =
    let m = c.args.maps.now.maps in let icid = c.args.icid.0 in let from = c.args.from.0 in let to = c.args.to.0 in
    let rs = c.loop-dev.redists in let now = c.move_lpis_of.new.redists in
    let here = lpis_of (events_at m c.in-Some.dev.0) icid in let rest = lpis_of_all m c.next.new.self icid in
    let is : lpis_of_all m c.loop-dev.dev-iterator icid ≡ here ++ rest = ap (λ (ds : List (ℕ × Device)). lpis_of_all m ds icid) c.in-Some.ensures.steps in
    let moved : now ≡ lpis_moved_in here from to rs = c.move_lpis_of.ensures ∙ ap (λ (es : List (ℕ × Event)). lpis_moved_in (lpis_of es icid) from to rs)
    c.events.ensures in
    record {
      rest = moved_some here rest from to rs now moved ∙ ap (λ (xs : List ℕ). lpis_moved_in xs from to rs) (sym is) ∙ c.loop-dev.invariant.rest;
      from = takes_more here rest from to from rs now moved (subst (TakesAll rs from) is c.loop-dev.invariant.from);
      to = takes_more here rest from to to rs now moved (subst (TakesAll rs to) is c.loop-dev.invariant.to);
      on = on_more here from to to rs now moved c.loop-dev.invariant.on;
    }

pub returns : goal.returns
returns c =
    let m = c.args.maps.now.maps in let icid = c.args.icid.0 in let from = c.args.from.0 in let to = c.args.to.0 in
    let done : [] ≡ lpis_of_all m c.loop-dev.dev-iterator icid = ap (λ (ds : List (ℕ × Device)). lpis_of_all m ds icid) (sym c.in-None.ensures.steps.0) in
    ap (λ (xs : List ℕ). lpis_moved_in xs from to c.loop-dev.redists) done ∙ c.loop-dev.invariant.rest
    ∙ ap (λ (xs : List ℕ). lpis_moved_in xs from to c.args.redists.now) (sym (intids_are m icid c.requires.devices))

-- it has no events
pub returns-then-not-has_events_of : goal.returns-then-not-has_events_of
returns-then-not-has_events_of c =
    ap (λ (xs : List ℕ). lpis_moved_in xs c.args.from.0 c.args.to.0 c.args.redists.now) (sym (no_intids c.args.maps.now.maps c.args.icid.0
    (sym c.has_events_of.ensures ∙ c.if-not-has_events_of.true)))
