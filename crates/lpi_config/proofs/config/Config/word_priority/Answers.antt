use Rattle.std.proofs.Common.{◌*◌, ◌<◌, subst, sym, ◌∙◌, arith}
use Rattle.its_types.specs.Ranges.{lpi_count}
use Rattle.lpi_config.specs.Configurations.{Configuration}
use Rattle.lpi_config.proofs.Sizes.{size_of}
use Rattle.lpi_config.proofs.LeastPriorities.{word_priority}
use Rattle.lpi_config.proofs.config.Config.word_priority.Goals as goal

pub returns : goal.returns
returns c =
    let i = c.self.inside in
    let v = c.self.invariant in
    let s = size_of i.lpi_bits v.low v.high in
    let there : 64 * c.args.at < lpi_count i.lpi_bits =
    subst (λ (x : Configuration). 64 * c.args.at < lpi_count x.lpi_bits) (sym c.self.view_is) c.requires in
    rw (← c.self.view_is)
    (c.word.ensures ∙ word_priority i.bounds i.bytes.items c.args.at v.bounds (omega (arith, s.is, there, v.size, v.least_size)))
