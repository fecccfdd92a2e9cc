use Rattle.std.proofs.Common.{◌≡◌, ◌*◌, ◌/◌, length, ap, ◌∙◌, arith}
use Rattle.std.proofs.lemmas.List.{length-replicate}
use Rattle.lpi_config.proofs.LeastPriorities.{none_enabled, none_of_bytes}
use Rattle.lpi_config.proofs.config.Config.zeros.Goals as goal

pub invariant_of-result : goal.invariant_of-result
invariant_of-result c =
    let count = c.lpi_count-count in
    let bytes_is = c.in_ok-vec.ensures.items_if_clones_equal (λ y e. e) in
    let enabled_is = c.in_ok-vec-2.ensures.items_if_clones_equal (λ y e. e) in
    let bytes : length c.in_ok-vec.field-0.items ≡ count.result = ap length bytes_is ∙ length-replicate count.result 0 in
    let enabled : length c.in_ok-vec-2.field-0.items ≡ count.result / 64 = ap length enabled_is ∙ length-replicate (count.result / 64) 0 in
    let bounds : length c.in_ok-new.field-0 ≡ 64 * (count.result / 4096) = ap length c.in_ok-new.ensures ∙ length-replicate (64 * (count.result / 4096)) 255 in
    record {
      low = c.requires.low;
      high = c.requires.high;
      size = bytes ∙ count.ensures.count;
      words = omega (arith, bytes, enabled, count.ensures.words);
      in_step = none_enabled c.in_ok-vec-2.field-0.items c.in_ok-vec.field-0.items (count.result / 64) count.result enabled_is bytes_is;
      least_size = omega (arith, bounds, bytes, count.ensures.groups);
      bounds = none_of_bytes c.in_ok-new.field-0 c.in_ok-vec.field-0.items (64 * (count.result / 4096)) count.result c.in_ok-new.ensures bytes_is;
    }
