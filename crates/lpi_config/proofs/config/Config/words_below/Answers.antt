use Rattle.std.proofs.Common.{◌+◌, ◌*◌, ◌<◌, ltb, ap, subst, sym, ◌∙◌, arith}
use Rattle.its_types.specs.Ranges.{lpi_count}
use Rattle.lpi_config.specs.Configurations.{Configuration}
use Rattle.lpi_config.proofs.Sizes.{size_of}
use Rattle.lpi_config.proofs.LeastPriorities.{word_priority}
use Rattle.lpi_config.proofs.config.Config.words_below.Goals as goal

pub returns : goal.returns
returns c k lt =
    let i = c.self.inside in
    let v = c.self.invariant in
    let s = size_of i.lpi_bits v.low v.high in
    let there : 4096 * c.args.group < lpi_count i.lpi_bits =
    subst (λ (x : Configuration). 4096 * c.args.group < lpi_count x.lpi_bits) (sym c.self.view_is) c.requires in
    rw (← c.self.view_is)
    (c.words_below.ensures k lt
    ∙ ap (λ n. ltb n c.args.limit) (word_priority i.bounds i.bytes.items (64 * c.args.group + k) v.bounds
    (omega (arith, s.is, there, v.size, v.least_size, lt))))
