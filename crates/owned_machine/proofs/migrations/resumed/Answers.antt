use Rattle.std.proofs.Common.{sym, subst, ◌∙◌}
use Rattle.its_plain.specs.Plain.{Plain}
use Rattle.owned_parts.specs.Owned.{state_of_parts}
use Rattle.owned_machine.specs.Placed.{parts_in}
use Rattle.owned_machine.specs.Whole.{GoesOn}
use Rattle.owned_machine.proofs.Migrating.{moved_goes, no_fault, same_savable, same_saved, same_moved}
use Rattle.owned_machine.proofs.Restored.{where_fault}
use Rattle.owned_machine.proofs.migrations.resumed.Goals as goal

pub unreachable-requires : goal.unreachable-requires
unreachable-requires c =
    let t = c.requires.machine.0 in
    let u = state_of_parts (parts_in c.args.parts.now) in
    let values = c.in_ok-values in
    let given = c.in_ok-given in
    let e = c.in-Err-default-Fault in
    no_fault (record (parts_in c.args.parts.now) { track = t }) c.args.memory c.deref.result.now given.given c.requires.machine.1
    (same_savable u t ∙ c.requires.savable) (c.requires.saved ∙ sym (same_saved u t)) (c.deref.ensures.value ∙ values.ensures)
    given.ensures.bases e.field-0-1-0 e.field-0-1-1 (where_fault e.field-0-1 e.field-0-1-0 e.field-0-1-1 _ e.field-0-1-is e.ensures.fault)

pub returns-in-Ok : goal.returns-in-Ok
returns-in-Ok c =
    let t = c.requires.machine.0 in
    let u = state_of_parts (parts_in c.args.parts.now) in
    let values = c.in_ok-values in
    let given = c.in_ok-given in
    let e = c.in-Ok.ensures in
    subst (λ (w : Plain). GoesOn c.in-Ok.restored w) (same_moved u t)
    (moved_goes (record (parts_in c.args.parts.now) { track = t }) c.args.memory c.deref.result.now given.given c.requires.machine.1
    (same_savable u t ∙ c.requires.savable) (c.requires.saved ∙ sym (same_saved u t)) (c.deref.ensures.value ∙ values.ensures)
    given.ensures.bases c.in-Ok.restored e.layout e.stands e.in_hand e.no_others)
