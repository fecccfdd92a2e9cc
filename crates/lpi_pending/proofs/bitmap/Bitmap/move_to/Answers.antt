use Rattle.std.proofs.Common.{◌∙◌}
use Rattle.std.proofs.lemmas.List.{with_items_is}
use Rattle.lpi_pending.proofs.Moves.{moved_bits, moved_summary}
use Rattle.lpi_pending.proofs.bitmap.Bitmap.move_to.Goals as goal

pub invariant_of-to : goal.invariant_of-to
invariant_of-to c =
    let to = c.to.inside in
    let from = c.self.inside in
    let words = with_items_is to.words c.move_words.new.to (c.move_words.ensures.size ∙ c.deref_mut-2.ensures.len) in
    let summary = with_items_is to.summary c.move_words-2.new.to (c.move_words-2.ensures.size ∙ c.deref_mut-4.ensures.len) in
    let moved = rw (c.deref_mut.ensures.value, c.deref_mut-2.ensures.value) at c.move_words.ensures.words in
    let moved' = rw (c.deref_mut-3.ensures.value, c.deref_mut-4.ensures.value) at c.move_words-2.ensures.words in
    let size = rw c.deref_mut-2.ensures.value at c.move_words.ensures.size in
    let size' = rw c.deref_mut-4.ensures.value at c.move_words-2.ensures.size in
    rw (words, summary) (moved_summary to.summary.items to.words.items from.summary.items from.words.items c.move_words-2.new.to c.move_words.new.to
    c.to.invariant c.self.invariant moved' moved size' size)

pub returns-clause-bits : goal.returns-clause-bits
returns-clause-bits c =
    let words = with_items_is c.to.inside.words c.move_words.new.to (c.move_words.ensures.size ∙ c.deref_mut-2.ensures.len) in
    let moved = rw (c.deref_mut.ensures.value, c.deref_mut-2.ensures.value) at c.move_words.ensures.words in
    rw (words, ← c.self.view_is, ← c.to.view_is) (moved_bits c.to.inside.words.items c.self.inside.words.items c.move_words.new.to moved)
