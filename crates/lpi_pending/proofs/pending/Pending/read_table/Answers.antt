use Rattle.std.proofs.Common.{◌≡◌, true, ◌+◌, ◌*◌, ℕ, List, length, sym, ap, ◌∙◌, arith}
use Rattle.std.proofs.lemmas.Bool.{OnTrue_at}
use Rattle.guest_windows.specs.Windows.{inside}
use Rattle.lpi_pending.proofs.Windows.{inside_part}
use Rattle.its_types.specs.Ranges.{pending_bytes}
use Rattle.lpi_config.proofs.Sizes.{table_size}
use Rattle.lpi_pending.specs.PendingSets.{PendingSet}
use Rattle.lpi_pending.proofs.Tables.{read_set}
use Rattle.lpi_pending.proofs.pending.Pending.read_table.Goals as goal

pub read-requires-clause-inside : goal.read-requires-clause-inside
read-requires-clause-inside c =
    let memory = c.args.memory.now in let base = c.args.base.0 in let bits = c.self.inside.lpi_bits in
    let size = table_size bits (length c.self.inside.bitmap) c.self.invariant.low c.self.invariant.high c.self.invariant.size in
    let there : inside memory base (pending_bytes bits) ≡ true = ap (inside memory base) (sym size.shifted) ∙ sym c.inside.ensures.inside ∙ c.if-inside.true in
    inside_part memory base (pending_bytes bits) (base + 1024) (8 * length c.self.inside.bitmap) (omega arith) (omega (arith, size.is)) there

pub read-requires-clause-low : goal.read-requires-clause-low
read-requires-clause-low c =
    let size = table_size c.self.inside.lpi_bits (length c.self.inside.bitmap) c.self.invariant.low c.self.invariant.high c.self.invariant.size in
    omega (arith, size.is, size.shifted, OnTrue_at c.if-inside.true c.inside.ensures.low)

pub returns-then-inside : goal.returns-then-inside
returns-then-inside c =
    let memory = c.args.memory.now in let base = c.args.base.0 in let bits = c.self.inside.lpi_bits in
    let rebuilt : List ℕ → PendingSet = λ lpis. record { lpi_bits = bits; lpis = lpis } in
    let size = table_size bits (length c.self.inside.bitmap) c.self.invariant.low c.self.invariant.high c.self.invariant.size in
    let there : inside memory base (pending_bytes bits) ≡ true = ap (inside memory base) (sym size.shifted) ∙ sym c.inside.ensures.inside ∙ c.if-inside.true in
    rw (← c.self.view_is, there)
    (ap rebuilt (read_set bits memory base c.read.new.self (ap (λ n. 64 * n) c.read.ensures.size ∙ c.self.invariant.size)
    (λ k lt. c.read.ensures.bits k (omega (arith, lt, c.read.ensures.size)))))
