use Rattle.std.proofs.Common.{◌+◌, ◌*◌, ◌/◌, arith}
use Rattle.lpi_config.proofs.LeastPriorities.{none_of_words}
use Rattle.lpi_config.proofs.bounds.Bounds.new.Goals as goal

pub invariant_of-result : goal.invariant_of-result
invariant_of-result c =
    none_of_words c.in_ok-vec-2.field-0.items c.in_ok-vec.field-0.items (64 * ((c.args.groups + 63) / 64)) (64 * c.args.groups)
    (c.in_ok-vec-2.ensures.items_if_clones_equal (λ y e. e)) (c.in_ok-vec.ensures.items_if_clones_equal (λ y e. e)) (omega arith) (omega arith)
    (omega arith) (omega (arith, c.requires))
