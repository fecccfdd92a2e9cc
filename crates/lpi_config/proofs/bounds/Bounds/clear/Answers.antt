use Rattle.std.proofs.Common.{◌≡◌, length, replicate, ap, ◌∙◌, arith}
use Rattle.lpi_config.proofs.LeastPriorities.{none_of_words}
use Rattle.lpi_config.proofs.bounds.Bounds.clear.Goals as goal

pub invariant_of-self : goal.invariant_of-self
invariant_of-self c =
    let i = c.self.inside in
    let v = c.self.invariant in
    let groups : i.groups.len ≡ length i.groups.items = omega (arith, i.groups.ok.0) in
    let words : i.words.len ≡ length i.words.items = omega (arith, i.words.ok.0) in
    none_of_words c.fill-2.new.self.items c.fill.new.self.items (length i.groups.items) (length i.words.items)
    (c.fill-2.ensures.items (λ y e. e) ∙ ap (λ n. replicate n 255) groups) (c.fill.ensures.items (λ y e. e) ∙ ap (λ n. replicate n 255) words) v.whole v.blocks
    v.room v.small
