use Rattle.std.proofs.Common.{◌≡◌, ℕ, ◌*◌, ◌^◌, ◌/◌, ◌%◌, ◌-◌, ◌<◌, bit_and, ap, ◌∙◌, arith}
use Rattle.std.proofs.Math.Nat.{mod-eq_of_lt}
use Rattle.std.proofs.Math.Pow.{pow-lt}
use Rattle.std.proofs.lemmas.Nat.{and_mask}
use Rattle.its_types.proofs.bits.field.Goals as goal

-- the mask of the lowest bits
mask : (width : ℕ) → width < 64 → (1 * 2 ^ width % 2 ^ 64 - 1) ≡ 2 ^ width - 1
mask width lt =
    let small : 2 ^ width < 2 ^ 64 = pow-lt lt in
    let one : 1 * 2 ^ width ≡ 2 ^ width = omega arith in
    let same : 1 * 2 ^ width % 2 ^ 64 ≡ 2 ^ width = ap (λ n. n % 2 ^ 64) one ∙ mod-eq_of_lt small in
    ap (λ n. n - 1) same

pub returns : goal.returns
returns c =
    ap (bit_and (c.args.number / 2 ^ c.args.low)) (mask c.args.width c.requires.width_fits) ∙ and_mask (c.args.number / 2 ^ c.args.low) c.args.width
