use Rattle.std.proofs.Common.{◌≡◌, ℕ, List, [], ◌∷◌, ◌++◌, sym, ap, subst, ◌∙◌, append_assoc, append-nil}
use Rattle.its_types.specs.declared.translation.Event.{Event}
use Rattle.its_maps.specs.Walks.{EventsLeft, events_left}
use Rattle.cmd_exec.specs.Walked.{lpis_of, AreLeft}
use Rattle.cmd_exec.proofs.Walks.{lpis_first, each_first}
use Rattle.cmd_exec.proofs.Left.{left_all, left_with, left_then, left_can}
use Rattle.cmd_exec.proofs.collections.reread_collection_of.Goals as goal

pub loop-event-init : goal.loop-event-init
loop-event-init c =
    let n = c.args.vcpus in let memory = c.args.memory.now in let icid = c.args.icid.0 in let rs = c.args.redists.now in let batch = c.args.batch.now in
    subst (λ (w : EventsLeft). AreLeft n memory (batch ++ lpis_of (events_left c.args.events) icid) (batch ++ lpis_of (events_left w) icid) rs rs)
    (sym c.into_iter-event-iterator.ensures.into_iter_gives) (left_all n memory (batch ++ lpis_of (events_left c.args.events) icid) rs)

pub flush_full-requires : goal.flush_full-requires
flush_full-requires c =
    let n = c.args.vcpus in let memory = c.args.memory.now in let icid = c.args.icid.0 in let rs = c.args.redists.now in let now = c.loop-event.redists in
    let all = c.args.batch.now ++ lpis_of (events_left c.args.events) icid in
    let batch = c.loop-event.batch in let rest = lpis_of (events_left c.loop-event.event-iterator) icid in
    each_first n now batch rest (left_can n memory all (batch ++ rest) rs now c.loop-event.invariant c.requires)

pub loop-event-preserved-then-eq : goal.loop-event-preserved-then-eq
loop-event-preserved-then-eq c =
    let n = c.args.vcpus in let memory = c.args.memory.now in let icid = c.args.icid.0 in let rs = c.args.redists.now in
    let all = c.args.batch.now ++ lpis_of (events_left c.args.events) icid in
    let batch = c.loop-event.batch in let batch' = c.flush_full.new.batch in let now = c.loop-event.redists in let now' = c.flush_full.new.redists in
    let event = c.in-Some.event in let x = event.intid.0 in let rest = lpis_of (events_left c.next.new.self) icid in
    let is : lpis_of (events_left c.loop-event.event-iterator) icid ≡ x ∷ rest =
    ap (λ (es : List (ℕ × Event)). lpis_of es icid) c.in-Some.ensures.steps ∙ lpis_first c.in-Some.field-0-0.0 event (events_left c.next.new.self) icid
    (sym c.if-eq.ensures) in
    let before : AreLeft n memory all (batch ++ x ∷ rest) rs now = subst (λ (ys : List ℕ). AreLeft n memory all (batch ++ ys) rs now) is c.loop-event.invariant in
    let after : batch' ++ x ∷ rest ≡ c.push.new.self ++ rest =
    sym (append_assoc batch' (x ∷ []) rest) ∙ ap (λ (ys : List ℕ). ys ++ rest) (sym c.push.ensures) in
    subst (λ (ys : List ℕ). AreLeft n memory all ys rs now') after
    (left_then n memory all (batch ++ x ∷ rest) (batch' ++ x ∷ rest) rs now now' before
    (left_with n memory batch batch' (x ∷ rest) now now' c.flush_full.ensures.left))

pub returns : goal.returns
returns c =
    let n = c.args.vcpus in let memory = c.args.memory.now in let icid = c.args.icid.0 in let rs = c.args.redists.now in
    let all = c.args.batch.now ++ lpis_of (events_left c.args.events) icid in let batch = c.loop-event.batch in
    let done : batch ++ lpis_of (events_left c.loop-event.event-iterator) icid ≡ batch =
    ap (λ (es : List (ℕ × Event)). batch ++ lpis_of es icid) c.in-None.ensures.steps.0 ∙ append-nil batch in
    subst (λ (ys : List ℕ). AreLeft n memory all ys rs c.loop-event.redists) done c.loop-event.invariant
