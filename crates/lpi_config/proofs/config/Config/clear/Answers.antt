use Rattle.std.proofs.Common.{◌≡◌, length, replicate, ap, ◌∙◌, arith}
use Rattle.std.proofs.lemmas.List.{length-replicate}
use Rattle.lpi_config.proofs.LeastPriorities.{none_enabled, none_of_bytes}
use Rattle.lpi_config.proofs.config.Config.clear.Goals as goal

pub invariant_of-self : goal.invariant_of-self
invariant_of-self c =
    let i = c.self.inside in
    let v = c.self.invariant in
    let bytes_len : i.bytes.len ≡ length i.bytes.items = omega (arith, i.bytes.ok.0) in
    let enabled_len : i.enabled.len ≡ length i.enabled.items = omega (arith, i.enabled.ok.0) in
    let bytes_is = c.fill.ensures.items (λ y e. e) ∙ ap (λ n. replicate n 0) bytes_len in
    let enabled_is = c.fill-2.ensures.items (λ y e. e) ∙ ap (λ n. replicate n 0) enabled_len in
    let bytes : length c.fill.new.self.items ≡ length i.bytes.items = ap length bytes_is ∙ length-replicate (length i.bytes.items) 0 in
    let enabled : length c.fill-2.new.self.items ≡ length i.enabled.items = ap length enabled_is ∙ length-replicate (length i.enabled.items) 0 in
    let bounds : length c.clear.new.self ≡ length i.bounds = ap length c.clear.ensures ∙ length-replicate (length i.bounds) 255 in
    record {
      low = v.low;
      high = v.high;
      size = bytes ∙ v.size;
      words = omega (arith, bytes, enabled, v.words);
      in_step = none_enabled c.fill-2.new.self.items c.fill.new.self.items (length i.enabled.items) (length i.bytes.items) enabled_is bytes_is;
      least_size = omega (arith, bounds, bytes, v.least_size);
      bounds = none_of_bytes c.clear.new.self c.fill.new.self.items (length i.bounds) (length i.bytes.items) c.clear.ensures bytes_is;
    }
