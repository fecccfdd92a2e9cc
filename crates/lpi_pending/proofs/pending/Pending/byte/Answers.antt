use Rattle.std.proofs.Common.{◌-◌, ◌*◌, ◌%◌, ◌<◌, length, ap, ◌∙◌}
use Rattle.its_types.specs.Ranges.{pending_bytes}
use Rattle.its_types.specs.Bits.{field}
use Rattle.lpi_config.proofs.Sizes.{bytes_within}
use Rattle.lpi_pending.proofs.Bytes.{byte_at, pending_byte_is}
use Rattle.lpi_pending.proofs.pending.Pending.byte.Goals as goal

pub word-requires : goal.word-requires
word-requires c =
    let high : c.args.n < pending_bytes c.self.inside.lpi_bits = rw (← c.self.view_is) at c.requires.high in
    let within = bytes_within c.self.inside.lpi_bits (64 * length c.self.inside.bitmap) c.args.n c.self.invariant.low c.self.invariant.high
    c.self.invariant.size high in
    (byte_at c.self.inside.bitmap c.args.n 0 c.requires.low within).inside

pub returns : goal.returns
returns c =
    let high : c.args.n < pending_bytes c.self.inside.lpi_bits = rw (← c.self.view_is) at c.requires.high in
    let within = bytes_within c.self.inside.lpi_bits (64 * length c.self.inside.bitmap) c.args.n c.self.invariant.low c.self.invariant.high
    c.self.invariant.size high in
    let place = byte_at c.self.inside.bitmap c.args.n 0 c.requires.low within in
    rw (← c.self.view_is)
    (c.field.ensures ∙ ap (λ word. field word (8 * ((c.args.n - 1024) % 8)) 8) c.word.ensures ∙ pending_byte_is c.self.inside.bitmap c.args.n _ _ place)
