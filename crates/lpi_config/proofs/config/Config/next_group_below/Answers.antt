use Rattle.std.proofs.Common.{◌≡◌, ◌+◌, ◌*◌, length, ltb, ap, ◌∙◌, arith}
use Rattle.its_types.specs.Ranges.{lpi_count}
use Rattle.lpi_config.specs.Bounds.{least_priority, least_of_group}
use Rattle.lpi_config.proofs.LeastPriorities.{first_same, group_priority}
use Rattle.lpi_config.proofs.config.Config.next_group_below.Goals as goal

pub returns : goal.returns
returns c =
    let i = c.self.inside in
    let v = c.self.invariant in
    let all : 64 * length i.bounds ≡ lpi_count i.lpi_bits = v.least_size ∙ v.size in
    rw (← c.self.view_is)
    (first_same (λ g. ltb (least_of_group i.bounds g) c.args.limit) (λ g. ltb (least_priority i.bytes.items (8192 + 4096 * g) 4096) c.args.limit) c.args.from
    _ _ c.next_group_below.result (λ g. ap (λ n. ltb n c.args.limit) (group_priority i.bounds i.bytes.items g v.bounds v.least_size)) (omega (arith, all))
    c.next_group_below.ensures)
