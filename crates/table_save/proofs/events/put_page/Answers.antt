use Rattle.std.proofs.Common.{◌+◌, ◌≤◌, ◌∷◌, ◌-◌, length, refl, subst, sym, ap, ◌∙◌}
use Rattle.std.specs.Prelude.{IfSome}
use Rattle.its_maps.specs.Walks.{events_left}
use Rattle.its_plain.specs.Saved.{distance}
use Rattle.table_save.specs.Pass.{RisesFrom, FitsEvent, first_key, first_from, pack_event, Passed}
use Rattle.table_save.proofs.PlaceWords.{rest_rises, page_first, page_passed, page_words, taken, taken_first, words_long}
use Rattle.table_save.proofs.events.put_page.Goals as goal

pub word_of-requires-clause-later : goal.word_of-requires-clause-later
word_of-requires-clause-later c =
    let slots = c.places-slots.result.now in
    let rest = events_left c.places-slots.new.self in
    let r = rest_rises (c.args.id + 1) slots rest (subst (RisesFrom (c.args.id + 1)) c.places-slots.ensures.walk c.requires.rises)
    c.places-slots.ensures.after in
    let first = c.event_id.ensures ∙ taken_first c.next-next.result (events_left c.next-next.new.self)
    ∙ ap first_key (sym (taken c.next-next.result (events_left c.next-next.new.self) rest c.next-next.ensures.steps)) in
    subst (λ o. IfSome o (λ n. c.args.id ≤ n)) (sym (c.put_slots-first.ensures.first ∙ ap (first_from (c.args.id + 1) slots) first))
    (page_first c.args.id slots rest r)

pub returns-clause-words : goal.returns-clause-words
returns-clause-words c k lt =
    let slots = c.places-slots.result.now in
    let rest = events_left c.places-slots.new.self in
    let r = rest_rises (c.args.id + 1) slots rest (subst (RisesFrom (c.args.id + 1)) c.places-slots.ensures.walk c.requires.rises)
    c.places-slots.ensures.after in
    let first = c.event_id.ensures ∙ taken_first c.next-next.result (events_left c.next-next.new.self)
    ∙ ap first_key (sym (taken c.next-next.result (events_left c.next-next.new.self) rest c.next-next.ensures.steps)) in
    page_words c.args.id (1 + length slots - 1) k c.args.event slots (events_left c.args.rest.now) rest c.event_id.result c.args.words.now c.put_slots-first.new.words
    c.word_of.result c.places-slots.ensures.walk first c.put_slots-first.ensures.words
    (c.word_of.ensures ∙ ap (λ o. pack_event c.args.event (distance 65535 c.args.id o)) c.put_slots-first.ensures.first) r c.requires.some
    (ap length c.put_slots-first.ensures.words ∙ words_long (c.args.id + 1) slots c.event_id.result) lt

pub returns-clause-rest : goal.returns-clause-rest
returns-clause-rest c =
    let slots = c.places-slots.result.now in
    let rest = events_left c.places-slots.new.self in
    let r = rest_rises (c.args.id + 1) slots rest (subst (RisesFrom (c.args.id + 1)) c.places-slots.ensures.walk c.requires.rises)
    c.places-slots.ensures.after in
    let left = taken c.next-next.result (events_left c.next-next.new.self) rest c.next-next.ensures.steps in
    subst (Passed FitsEvent pack_event 65535 (c.args.id + (1 + length slots)) ((c.args.id, c.args.event) ∷ (events_left c.args.rest.now))) left
    (page_passed c.args.id (1 + length slots) c.args.event slots (events_left c.args.rest.now) rest c.places-slots.ensures.walk refl r c.requires.fit)
