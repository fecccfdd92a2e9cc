use Rattle.std.proofs.Common.{◌≡◌, ℕ, ◌+◌, ◌*◌, ◌/◌, ◌<◌, List, length, get_or, set, subst, sym, ◌∙◌, arith}
use Rattle.std.proofs.lemmas.List.{length-set}
use Rattle.lpi_config.proofs.LeastPriorities.{one_of_words, group_by_words, group_within}
use Rattle.lpi_config.proofs.bounds.Bounds.put.Goals as goal

pub invariant_of-self : goal.invariant_of-self
invariant_of-self c =
    let i = c.self.inside in
    let there : c.args.at < length i.words.items = subst (λ (xs : List ℕ). c.args.at < length xs) (sym c.self.view_is) c.requires in
    let same : (k : ℕ) → k < 64 → get_or c.bytes_at.result.now k 0 ≡ get_or (set i.words.items c.args.at c.args.least) (64 * (c.args.at / 64) + k) 0 =
    subst (λ (xs : List ℕ). (k : ℕ) → k < 64 → get_or c.bytes_at.result.now k 0 ≡ get_or xs (64 * (c.args.at / 64) + k) 0) c.deref.ensures.value
    c.bytes_at.ensures in
    one_of_words i.groups.items i.words.items c.args.at c.args.least c.least_number.result c.self.invariant there
    (c.least_number.ensures ∙ group_by_words (set i.words.items c.args.at c.args.least) c.bytes_at.result.now (c.args.at / 64)
    (omega (arith, group_within i.groups.items i.words.items c.args.at c.self.invariant there, length-set i.words.items c.args.at c.args.least)) same)
