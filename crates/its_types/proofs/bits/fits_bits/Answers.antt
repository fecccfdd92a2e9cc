use Rattle.std.proofs.Common.{◌≤◌, ◌^◌, sym, ◌∙◌, arith}
use Rattle.std.proofs.lemmas.Bool.{lt-ltb, le-leb}
use Rattle.std.proofs.Math.Nat.{pow-le-pow_right}
use Rattle.its_types.proofs.bits.fits_bits.Goals as goal

pub returns-then-bits-ge32 : goal.returns-then-bits-ge32
returns-then-bits-ge32 c =
    let wide : 2 ^ 32 ≤ 2 ^ c.args.bits = pow-le-pow_right (omega arith) c.if-bits-ge32.true in
    le-leb _ _ c.if-bits-ge32.true ∙ sym (lt-ltb _ _ (omega arith))
