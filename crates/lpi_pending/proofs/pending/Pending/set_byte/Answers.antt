use Rattle.std.proofs.Common.{◌*◌, ◌<◌, ℕ, List, length, ap, ◌∙◌}
use Rattle.its_types.specs.Ranges.{pending_bytes}
use Rattle.lpi_config.proofs.Sizes.{bytes_within}
use Rattle.lpi_pending.specs.PendingSets.{PendingSet, lpis_of}
use Rattle.lpi_pending.proofs.Bytes.{byte_at, lpis_of-set_byte}
use Rattle.lpi_pending.proofs.pending.Pending.set_byte.Goals as goal

pub word-word-requires : goal.word-word-requires
word-word-requires c =
    let high : c.args.n < pending_bytes c.self.inside.lpi_bits = rw (← c.self.view_is) at c.requires.high in
    let within = bytes_within c.self.inside.lpi_bits (64 * length c.self.inside.bitmap) c.args.n c.self.invariant.low c.self.invariant.high
    c.self.invariant.size high in
    (byte_at c.self.inside.bitmap c.args.n 0 c.requires.low within).inside

pub put_word-requires : goal.put_word-requires
put_word-requires c =
    let high : c.args.n < pending_bytes c.self.inside.lpi_bits = rw (← c.self.view_is) at c.requires.high in
    let within = bytes_within c.self.inside.lpi_bits (64 * length c.self.inside.bitmap) c.args.n c.self.invariant.low c.self.invariant.high
    c.self.invariant.size high in
    (byte_at c.self.inside.bitmap c.args.n 0 c.requires.low within).inside

pub returns : goal.returns
returns c =
    let i = c.self.inside in
    let high : c.args.n < pending_bytes c.self.inside.lpi_bits = rw (← c.self.view_is) at c.requires.high in
    let within = bytes_within c.self.inside.lpi_bits (64 * length c.self.inside.bitmap) c.args.n c.self.invariant.low c.self.invariant.high
    c.self.invariant.size high in
    let place = byte_at c.self.inside.bitmap c.args.n 0 c.requires.low within in
    let rebuilt : List ℕ → PendingSet = λ lpis. record { lpi_bits = i.lpi_bits; lpis = lpis } in
    rw (← c.self.view_is)
    (ap rebuilt (ap lpis_of c.put_word.ensures ∙ lpis_of-set_byte i.bitmap c.args.n c.args.byte _ _ c.with_byte.result place
    (rw c.word-word.ensures at c.with_byte.ensures)))
