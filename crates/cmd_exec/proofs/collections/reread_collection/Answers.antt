use Rattle.std.proofs.Common.{◌≡◌, ℕ, List, [], ◌++◌, sym, ap, subst, ◌∙◌, append_assoc, append-nil}
use Rattle.std.specs.FinMap.{entries}
use Rattle.its_types.specs.declared.translation.Device.{Device}
use Rattle.its_types.specs.declared.translation.Event.{Event}
use Rattle.guest_windows.specs.Windows.{Window}
use Rattle.its_types.specs.Maps.{Maps, events_at}
use Rattle.its_plain.specs.Commands.{conf_all_reread_at}
use Rattle.lpi_pending.specs.InHand.{RedistParts}
use Rattle.cmd_exec.specs.InHand.{confs_changed}
use Rattle.cmd_exec.specs.Ready.{CanEachReread}
use Rattle.cmd_exec.specs.Walked.{lpis_of, lpis_of_all, AreLeft}
use Rattle.cmd_exec.proofs.Walks.{no_intids, read_none, each_first}
use Rattle.cmd_exec.proofs.Left.{left_all, left_with, left_then, left_can, left_read}
use Rattle.cmd_exec.proofs.Order.{intids_are}
use Rattle.cmd_exec.proofs.collections.reread_collection.Goals as goal

pub loop-dev-init : goal.loop-dev-init
loop-dev-init c =
    let m = c.args.maps.now.maps in let icid = c.args.icid.0 in let memory = c.args.memory.now in let n = c.args.vcpus in let rs = c.args.redists.now in
    let all = lpis_of_all m (entries m.devices) icid in
    let is : c.into_iter-dev-iterator.result ≡ entries m.devices = c.into_iter-dev-iterator.ensures.into_iter_gives ∙ c.devices-dev-items.ensures in
    let same : c.new-batch.result ++ lpis_of_all m c.into_iter-dev-iterator.result icid ≡ all =
    ap (λ (ys : List ℕ). ys ++ lpis_of_all m c.into_iter-dev-iterator.result icid) c.new-batch.ensures
    ∙ ap (λ (ds : List (ℕ × Device)). lpis_of_all m ds icid) is in
    subst (λ (ys : List ℕ). AreLeft n memory all ys rs rs) (sym same) (left_all n memory all rs)

pub reread_collection_of-requires : goal.reread_collection_of-requires
reread_collection_of-requires c =
    let m = c.args.maps.now.maps in let icid = c.args.icid.0 in let memory = c.args.memory.now in let n = c.args.vcpus in let rs = c.args.redists.now in
    let now = c.loop-dev.redists in let all = lpis_of_all m (entries m.devices) icid in
    let batch = c.loop-dev.batch in let here = lpis_of (events_at m c.in-Some.dev.0) icid in let rest = lpis_of_all m c.next.new.self icid in
    let is : batch ++ lpis_of_all m c.loop-dev.dev-iterator icid ≡ (batch ++ here) ++ rest =
    ap (λ (ds : List (ℕ × Device)). batch ++ lpis_of_all m ds icid) c.in-Some.ensures.steps ∙ sym (append_assoc batch here rest) in
    let can : CanEachReread n now (batch ++ lpis_of_all m c.loop-dev.dev-iterator icid) =
    left_can n memory all (batch ++ lpis_of_all m c.loop-dev.dev-iterator icid) rs now c.loop-dev.invariant
    (subst (CanEachReread n rs) (intids_are m icid c.requires.devices) c.requires.each) in
    subst (λ (es : List (ℕ × Event)). CanEachReread n now (batch ++ lpis_of es icid)) (sym c.events.ensures)
    (each_first n now (batch ++ here) rest (subst (CanEachReread n now) is can))

pub loop-dev-preserved : goal.loop-dev-preserved
loop-dev-preserved c =
    let m = c.args.maps.now.maps in let icid = c.args.icid.0 in let memory = c.args.memory.now in let n = c.args.vcpus in let rs = c.args.redists.now in
    let now = c.loop-dev.redists in let now' = c.reread_collection_of.new.redists in let all = lpis_of_all m (entries m.devices) icid in
    let batch = c.loop-dev.batch in let batch' = c.reread_collection_of.new.batch in
    let here = lpis_of (events_at m c.in-Some.dev.0) icid in let rest = lpis_of_all m c.next.new.self icid in
    let is : batch ++ lpis_of_all m c.loop-dev.dev-iterator icid ≡ (batch ++ here) ++ rest =
    ap (λ (ds : List (ℕ × Device)). batch ++ lpis_of_all m ds icid) c.in-Some.ensures.steps ∙ sym (append_assoc batch here rest) in
    let before : AreLeft n memory all ((batch ++ here) ++ rest) rs now = subst (λ (ys : List ℕ). AreLeft n memory all ys rs now) is c.loop-dev.invariant in
    let read : AreLeft n memory (batch ++ here) batch' now now' =
    subst (λ (es : List (ℕ × Event)). AreLeft n memory (batch ++ lpis_of es icid) batch' now now') c.events.ensures c.reread_collection_of.ensures in
    left_then n memory all ((batch ++ here) ++ rest) (batch' ++ rest) rs now now' before (left_with n memory (batch ++ here) batch' rest now now' read)

-- none is left but the batch
at_end : (n : ℕ) (memory : List Window) (m : Maps) (icid : ℕ) (all batch : List ℕ) (ds : List (ℕ × Device)) (rs now : RedistParts) → ds ≡ []
    → AreLeft n memory all (batch ++ lpis_of_all m ds icid) rs now → AreLeft n memory all batch rs now
at_end n memory m icid all batch ds rs now none h =
    subst (λ (ys : List ℕ). AreLeft n memory all ys rs now) (ap (λ (xs : List (ℕ × Device)). batch ++ lpis_of_all m xs icid) none ∙ append-nil batch) h

pub reread_batch-requires-clause-each : goal.reread_batch-requires-clause-each
reread_batch-requires-clause-each c =
    let m = c.args.maps.now.maps in let icid = c.args.icid.0 in let memory = c.args.memory.now in let n = c.args.vcpus in let rs = c.args.redists.now in
    let now = c.loop-dev.redists in let all = lpis_of_all m (entries m.devices) icid in let batch = c.loop-dev.batch in
    subst (CanEachReread n now) (sym c.intids.ensures.intids) (left_can n memory all batch rs now
    (at_end n memory m icid all batch c.loop-dev.dev-iterator rs now c.in-None.ensures.steps.0 c.loop-dev.invariant)
    (subst (CanEachReread n rs) (intids_are m icid c.requires.devices) c.requires.each))

pub returns : goal.returns
returns c =
    let m = c.args.maps.now.maps in let icid = c.args.icid.0 in let memory = c.args.memory.now in let n = c.args.vcpus in let rs = c.args.redists.now in
    let now = c.loop-dev.redists in let all = lpis_of_all m (entries m.devices) icid in let batch = c.loop-dev.batch in
    c.reread_batch.ensures
    ∙ ap (λ (ys : List ℕ). confs_changed n (conf_all_reread_at memory ys) now) c.intids.ensures.intids
    ∙ left_read n memory all batch rs now (at_end n memory m icid all batch c.loop-dev.dev-iterator rs now c.in-None.ensures.steps.0 c.loop-dev.invariant)
    ∙ ap (λ (ys : List ℕ). confs_changed n (conf_all_reread_at memory ys) rs) (sym (intids_are m icid c.requires.devices))

-- it has no events
pub returns-then-not-has_events_of : goal.returns-then-not-has_events_of
returns-then-not-has_events_of c =
    sym (read_none c.args.vcpus c.args.memory.now c.args.redists.now)
    ∙ ap (λ (xs : List ℕ). confs_changed c.args.vcpus (conf_all_reread_at c.args.memory.now xs) c.args.redists.now) (sym (no_intids c.args.maps.now.maps
    c.args.icid.0 (sym c.has_events_of.ensures ∙ c.if-not-has_events_of.true)))
