use Rattle.std.proofs.Common.{Option, map, ap, sym, subst, ◌∙◌}
use Rattle.dirty_log.specs.Copies.{caught_up}
use Rattle.dirty_log.specs.Pages.{dirty_count}
use Rattle.dirty_log.specs.declared.tracked.Tracked.{Tracked}
use Rattle.guest_windows.specs.Windows.{extent}
use Rattle.its_plain.specs.Saved.{moved_count}
use Rattle.its_plain.specs.Sound.{IsSound}
use Rattle.owned_parts.specs.Owned.{state_in_place}
use Rattle.its_migrate.proofs.Copying.{same_windows, copied_is, counted_is}
use Rattle.its_migrate.proofs.precopying.copied_memory.Goals as goal

pub copy_from-count-requires : goal.copy_from-count-requires
copy_from-count-requires c =
    let u = state_in_place c.args.parts.now in
    let sound = subst (λ (o : Option Tracked). IsSound (record u { track = o })) c.in-Some.is c.requires.sound in
    ap (λ (t : Tracked). map extent t.copy) c.mark_tables.ensures ∙ same_windows u c.in-Some.track sound

pub returns-clause-memory : goal.returns-clause-memory
returns-clause-memory c =
    let u = state_in_place c.args.parts.now in
    let sound = subst (λ (o : Option Tracked). IsSound (record u { track = o })) c.in-Some.is c.requires.sound in
    c.into_memory.ensures ∙ (ap (λ (t : Tracked). t.copy) c.copy_from-count.ensures.copied
    ∙ (ap (λ (t : Tracked). (caught_up u.memory t).copy) c.mark_tables.ensures ∙ copied_is u c.in-Some.track sound))

pub returns-clause-count : goal.returns-clause-count
returns-clause-count c =
    let u = state_in_place c.args.parts.now in
    let sound = subst (λ (o : Option Tracked). IsSound (record u { track = o })) c.in-Some.is c.requires.sound in
    c.copy_from-count.ensures.count ∙ (ap (λ (t : Tracked). dirty_count t.log) c.mark_tables.ensures ∙ (counted_is u c.in-Some.track sound
    ∙ ap (λ (o : Option Tracked). moved_count (record u { track = o })) (sym c.in-Some.is)))
