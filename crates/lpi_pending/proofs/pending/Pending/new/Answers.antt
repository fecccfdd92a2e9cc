use Rattle.std.proofs.Common.{List, ℕ, ◌-◌, ◌*◌, ◌^◌, ◌%◌, length, ap, ◌∙◌, arith}
use Rattle.std.proofs.lemmas.List.{length-replicate}
use Rattle.lpi_config.proofs.Sizes.{size_of}
use Rattle.lpi_pending.specs.PendingSets.{PendingSet, lpis_of}
use Rattle.lpi_pending.proofs.Bitmaps.{lpis_of-zeros}
use Rattle.lpi_pending.proofs.pending.Pending.new.Goals as goal

pub overflow_sub-groups-2 : goal.overflow_sub-groups-2
overflow_sub-groups-2 c = let s = size_of c.args.lpi_bits c.requires.low c.requires.high in omega arith

pub invariant_of-result : goal.invariant_of-result
invariant_of-result c =
    let s = size_of c.args.lpi_bits c.requires.low c.requires.high in
    record {
      low = c.requires.low;
      high = c.requires.high;
      size = omega (arith, ap length c.in_ok-new.ensures, length-replicate {A = ℕ});
    }

pub returns : goal.returns
returns c =
    let rebuilt : List ℕ → PendingSet = λ lpis. record { lpi_bits = c.args.lpi_bits; lpis = lpis } in
    ap rebuilt (ap lpis_of c.in_ok-new.ensures ∙ lpis_of-zeros (64 * (1 * 2 ^ (c.args.lpi_bits - 12) % 18446744073709551616 - 2)))
