use Rattle.std.proofs.Common.{◌≡◌, ℕ, ◌/◌, ◌≤◌, List, length, get_or, ap, subst, ◌∙◌}
use Rattle.std.proofs.lemmas.List.{with_items_is}
use Rattle.lpi_config.specs.Bounds.{AreOfWords}
use Rattle.lpi_config.proofs.LeastPriorities.{all_of_words}
use Rattle.lpi_config.proofs.bounds.Bounds.put_all.Goals as goal

pub invariant_of-self : goal.invariant_of-self
invariant_of-self c =
    let i = c.self.inside in
    let words = c.put_words.new.words in
    let groups = c.put_groups.new.groups in
    let words_is = with_items_is i.words c.put_words.new.words (c.put_words.ensures.size ∙ c.deref_mut.ensures.len) in
    let groups_is = with_items_is i.groups c.put_groups.new.groups (c.put_groups.ensures.size ∙ c.deref_mut-2.ensures.len) in
    let lent : c.deref.result.now ≡ c.put_words.new.words = c.deref.ensures.value ∙ words_is in
    let anew : AreOfWords groups words (length words / 64) =
    subst (λ (ws : List ℕ). AreOfWords groups ws (length ws / 64)) lent c.put_groups.ensures.groups in
    let others : (g : ℕ) → length words / 64 ≤ g → get_or groups g 0 ≡ get_or c.deref_mut-2.result.now g 0 =
    subst (λ (ws : List ℕ). (g : ℕ) → length ws / 64 ≤ g → get_or groups g 0 ≡ get_or c.deref_mut-2.result.now g 0) lent c.put_groups.ensures.others in
    let others' : (g : ℕ) → length words / 64 ≤ g → get_or groups g 0 ≡ get_or i.groups.items g 0 =
    subst (λ (gs : List ℕ). (g : ℕ) → length words / 64 ≤ g → get_or groups g 0 ≡ get_or gs g 0) c.deref_mut-2.ensures.value others in
    rw (words_is, groups_is)
    (all_of_words i.groups.items i.words.items groups words c.self.invariant (c.put_words.ensures.size ∙ ap length c.deref_mut.ensures.value)
    (c.put_groups.ensures.size ∙ ap length c.deref_mut-2.ensures.value) anew others')
