-- Powers of two between two others.
use Rattle.std.proofs.Common.{◌≡◌, ℕ, ◌^◌, ◌≤◌, arith}
use Rattle.std.proofs.Math.Nat.{pow-le-pow_right}

-- a power whose exponent lies between 14 and 20
pub lpi_power : (n result : ℕ) → result ≡ 2 ^ n → 14 ≤ n → n ≤ 20 → (16384 ≤ result) × (result ≤ 1048576)
lpi_power n result is low high =
    let least : 2 ^ 14 ≤ 2 ^ n = pow-le-pow_right (omega arith) low in
    let most : 2 ^ n ≤ 2 ^ 20 = pow-le-pow_right (omega arith) high in
    (omega arith, omega arith)

-- and between 11 and 17
pub byte_power : (n result : ℕ) → result ≡ 2 ^ n → 11 ≤ n → n ≤ 17 → (2048 ≤ result) × (result ≤ 131072)
byte_power n result is low high =
    let least : 2 ^ 11 ≤ 2 ^ n = pow-le-pow_right (omega arith) low in
    let most : 2 ^ n ≤ 2 ^ 17 = pow-le-pow_right (omega arith) high in
    (omega arith, omega arith)
