use Rattle.std.proofs.Common.{◌≡◌, List, Option, Some, None, sym, ap, ◌∙◌}
use Rattle.std.specs.Option.{option_map}
use Rattle.dirty_log.specs.declared.tracked.Tracked.{Tracked}
use Rattle.its_plain.specs.Saved.{Words, wrote_tables, words_of}
use Rattle.owned_parts.specs.Owned.{state_of_parts, state_in_place}
use Rattle.owned_machine.proofs.Migrating.{lent_in_hand, same_words}
use Rattle.owned_machine.proofs.saves.mark_saved.Goals as goal

pub mark_tables-requires-clause-parts : goal.mark_tables-requires-clause-parts
mark_tables-requires-clause-parts c =
    lent_in_hand c.args.parts.now c.in_place.result c.requires c.in_place.ensures.layout c.in_place.ensures.redists

pub returns : goal.returns
returns c =
    let p = c.args.parts.now in
    let u = state_of_parts p in
    let t = c.in-Some.track in
    let there : p.track ≡ Some t = sym c.take.ensures.value ∙ c.in-Some.is in
    let rest : state_in_place c.in_place.result ≡ record u { track = None } =
    c.in_place.ensures.state ∙ ap (λ (o : Option Tracked). record u { track = o }) c.take.ensures.after in
    let marks = c.mark_tables.ensures ∙ ap (λ (ws : List Words). wrote_tables ws t) (same_words p c.in_place.result rest) in
    ap (λ (o : Option Tracked). record p { track = o })
    (ap (λ (x : Tracked). Some x) marks ∙ sym (ap (option_map (wrote_tables (words_of u))) there))
