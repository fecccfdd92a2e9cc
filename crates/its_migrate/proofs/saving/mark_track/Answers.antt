use Rattle.std.proofs.Common.{◌≡◌, List, Some, None, ap, sym, subst, ◌∙◌}
use Rattle.dirty_log.specs.declared.tracked.Tracked.{Tracked}
use Rattle.its_plain.specs.Plain.{Translator}
use Rattle.its_plain.specs.Saved.{Words, words_of, wrote_tables}
use Rattle.its_plain.specs.Sound.{IsSound}
use Rattle.owned_parts.specs.Owned.{one_or_two, state_of, translators_at}
use Rattle.its_migrate.specs.Saving.{translators_held}
use Rattle.its_migrate.proofs.Copying.{same_words}
use Rattle.its_migrate.proofs.saving.mark_track.Goals as goal

pub mark_tables-requires-clause-sound : goal.mark_tables-requires-clause-sound
mark_tables-requires-clause-sound c =
    let a = c.args in
    let same : translators_at c.in_place.result c.second_in_place.result ≡ translators_held a.first.now a.second.now =
    λ d. one_or_two (c.in_place.ensures d) (c.second_in_place.ensures d) in (
      Some a.track.now,
      subst (λ (ts : List Translator). IsSound (state_of a.layout.now ts a.memory.now (Some a.track.now) a.redists.now)) (sym same) c.requires.sound,
    )

pub returns : goal.returns
returns c =
    let a = c.args in
    let same : translators_at c.in_place.result c.second_in_place.result ≡ translators_held a.first.now a.second.now =
    λ d. one_or_two (c.in_place.ensures d) (c.second_in_place.ensures d) in
    let u = state_of a.layout.now (translators_held a.first.now a.second.now) a.memory.now (Some a.track.now) a.redists.now in
    ap (λ (t : Tracked). Some t) (c.mark_tables.ensures ∙ ap (λ (ws : List Words). wrote_tables ws a.track.now)
    (ap (λ (ts : List Translator). words_of (state_of a.layout.now ts a.memory.now None a.redists.now)) same ∙ same_words u None))
