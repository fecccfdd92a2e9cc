use Rattle.std.proofs.Common.{◌≡◌, ℕ, ◌+◌, ◌-◌, ◌*◌, ◌/◌, ◌<◌, true, bit_and, cond, eqb, List, length, get_or, set, ap, subst, sym, ◌∙◌, arith}
use Rattle.std.proofs.lemmas.List.{length-set, with_items_is}
use Rattle.its_types.specs.Bitmap.{word_bit}
use Rattle.its_types.specs.Ranges.{is_lpi}
use Rattle.lpi_config.specs.Bounds.{AreOfBytes}
use Rattle.lpi_config.proofs.LeastPriorities.{byte_within, word_within, word_by_bytes, one_of_bytes, enabled_with}
use Rattle.lpi_config.proofs.config.Config.reload.Goals as goal

pub invariant_of-self : goal.invariant_of-self
invariant_of-self c =
    let i = c.self.inside in
    let v = c.self.invariant in
    let in_range : is_lpi i.lpi_bits c.args.intid.0 ≡ true = rw (← c.self.view_is) at c.requires in
    let enabled_is = with_items_is i.enabled c.put_bit.new.words (c.put_bit.ensures.length ∙ c.deref_mut.ensures.len) in
    let bits : (k : ℕ) → word_bit c.put_bit.new.words k
    ≡ cond (eqb k (c.args.intid.0 - 8192)) (eqb (bit_and c.args.byte 1) 1) (word_bit i.enabled.items k) =
    subst (λ (xs : List ℕ). (k : ℕ) → word_bit c.put_bit.new.words k ≡ cond (eqb k (c.args.intid.0 - 8192)) (eqb (bit_and c.args.byte 1) 1) (word_bit xs k))
    c.deref_mut.ensures.value c.put_bit.ensures.bits in
    let same : (k : ℕ) → k < 64
    → get_or c.bytes_at.result.now k 0 ≡ get_or (set i.bytes.items (c.args.intid.0 - 8192) c.args.byte) (64 * ((c.args.intid.0 - 8192) / 64) + k) 0 =
    subst (λ (xs : List ℕ). (k : ℕ) → k < 64 → get_or c.bytes_at.result.now k 0 ≡ get_or xs (64 * ((c.args.intid.0 - 8192) / 64) + k) 0)
    c.deref.ensures.value c.bytes_at.ensures in
    let are = one_of_bytes i.bounds i.bytes.items (c.args.intid.0 - 8192) c.args.byte c.least_rank.result v.bounds
    (word_within i.lpi_bits c.args.intid.0 i.bytes.items i.bounds in_range v.size v.least_size)
    (c.least_rank.ensures ∙ word_by_bytes (set i.bytes.items (c.args.intid.0 - 8192) c.args.byte) c.bytes_at.result.now ((c.args.intid.0 - 8192) / 64) same)
    in
    let count = length-set i.bytes.items (c.args.intid.0 - 8192) c.args.byte in
    let enabled : length c.put_bit.new.words ≡ length i.enabled.items = c.put_bit.ensures.length ∙ ap length c.deref_mut.ensures.value in
    let bounds : length c.put.new.self ≡ length i.bounds =
    ap length c.put.ensures ∙ length-set i.bounds ((c.args.intid.0 - 8192) / 64) _ in
    rw enabled_is (record {
      low = v.low;
      high = v.high;
      size = count ∙ v.size;
      words = omega (arith, count, enabled, v.words);
      in_step = enabled_with i.bytes.items i.enabled.items c.put_bit.new.words (c.args.intid.0 - 8192) c.args.byte v.in_step
          (byte_within i.lpi_bits c.args.intid.0 i.bytes.items in_range v.size) bits;
      least_size = omega (arith, count, bounds, v.least_size);
      bounds = subst (λ (xs : List ℕ). AreOfBytes xs (set i.bytes.items (c.args.intid.0 - 8192) c.args.byte)) (sym c.put.ensures) are;
    })
