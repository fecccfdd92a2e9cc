-- The doublewords of the bytes of a command, and the fields of numbers that were put together of fields.
use Rattle.std.proofs.Common.{◌≡◌, ℕ, ◌+◌, ◌-◌, ◌*◌, ◌%◌, ◌^◌, ◌<◌, ◌≤◌, [], ◌++◌, Bool, true, false, nat_eq, ap, ◌∙◌, arith}
use Rattle.byteorder.specs.Endian.{little_bytes}
use Rattle.byteorder.specs.Numbers.{little_number-reads_back}
use Rattle.its_types.specs.Bits.{field}
use Rattle.its_command.specs.Commands.{doubleword, doublewords, of_device, at_target, at_valid}

pub first-word : (a b c d : ℕ) → a < 2 ^ 64 → doubleword (doublewords a b c d) 0 ≡ a
first-word a b c d lt = little_number-reads_back 8 a (little_bytes 8 b ++ little_bytes 8 c ++ little_bytes 8 d) lt

pub second-word : (a b c d : ℕ) → b < 2 ^ 64 → doubleword (doublewords a b c d) 1 ≡ b
second-word a b c d lt = little_number-reads_back 8 b (little_bytes 8 c ++ little_bytes 8 d) lt

pub third-word : (a b c d : ℕ) → c < 2 ^ 64 → doubleword (doublewords a b c d) 2 ≡ c
third-word a b c d lt = little_number-reads_back 8 c (little_bytes 8 d) lt

pub fourth-word : (a b c d : ℕ) → d < 2 ^ 64 → doubleword (doublewords a b c d) 3 ≡ d
fourth-word a b c d lt = little_number-reads_back 8 d [] lt

-- ---- fields

pub opcode-of_device : (opcode dev : ℕ) → opcode < 256 → field (of_device opcode dev) 0 8 ≡ opcode
opcode-of_device opcode dev lt = grind (arith)

pub device-of_device : (opcode dev : ℕ) → opcode < 256 → dev < 2 ^ 32 → field (of_device opcode dev) 32 32 ≡ dev
device-of_device opcode dev lt fits = grind (arith)

pub of_device-fits : (opcode dev : ℕ) → opcode < 256 → dev < 2 ^ 32 → of_device opcode dev < 2 ^ 64
of_device-fits opcode dev lt fits = omega arith

pub low_field : (number : ℕ) → number < 2 ^ 32 → field number 0 32 ≡ number
low_field number fits = grind (arith)

pub low_16 : (number : ℕ) → number < 2 ^ 16 → field number 0 16 ≡ number
low_16 number fits = grind (arith)

pub target-at_target : (number : ℕ) → number < 2 ^ 36 → field (at_target number) 16 36 ≡ number
target-at_target number fits = grind (arith)

-- the third doubleword of MAPC
pub icid-mapc : (icid target : ℕ) (valid : Bool) → icid < 2 ^ 16 → field (icid + at_target target + at_valid valid) 0 16 ≡ icid
icid-mapc icid target true fits = grind (arith)
icid-mapc icid target false fits = grind (arith)

pub target-mapc : (icid target : ℕ) (valid : Bool) → icid < 2 ^ 16 → target < 2 ^ 36 → field (icid + at_target target + at_valid valid) 16 36 ≡ target
target-mapc icid target true fits below = grind (arith)
target-mapc icid target false fits below = grind (arith)

pub valid-mapc : (icid target : ℕ) (valid : Bool) → icid < 2 ^ 16 → target < 2 ^ 36 → nat_eq (field (icid + at_target target + at_valid valid) 63 1) 1 ≡ valid
valid-mapc icid target true fits below = grind (arith)
valid-mapc icid target false fits below = grind (arith)

pub mapc-fits : (icid target : ℕ) (valid : Bool) → icid < 2 ^ 16 → target < 2 ^ 36 → icid + at_target target + at_valid valid < 2 ^ 64
mapc-fits icid target true fits below = omega arith
mapc-fits icid target false fits below = omega arith

-- the third doubleword of MAPD
pub itt-mapd : (itt : ℕ) (valid : Bool) → itt % 256 ≡ 0 → itt < 2 ^ 52 → field (itt + at_valid valid) 8 44 * 2 ^ 8 ≡ itt
itt-mapd itt true whole below = grind (arith)
itt-mapd itt false whole below = grind (arith)

pub valid-mapd : (itt : ℕ) (valid : Bool) → itt < 2 ^ 52 → nat_eq (field (itt + at_valid valid) 63 1) 1 ≡ valid
valid-mapd itt true below = grind (arith)
valid-mapd itt false below = grind (arith)

pub mapd-fits : (itt : ℕ) (valid : Bool) → itt < 2 ^ 52 → itt + at_valid valid < 2 ^ 64
mapd-fits itt true below = omega arith
mapd-fits itt false below = omega arith

pub size-mapd : (bits : ℕ) → 1 ≤ bits → bits ≤ 32 → field (bits - 1) 0 5 + 1 ≡ bits
size-mapd bits least most = grind (arith)

-- the second doubleword of MAPTI
pub event-mapti : (ev intid : ℕ) → ev < 2 ^ 32 → field (ev + intid * 2 ^ 32) 0 32 ≡ ev
event-mapti ev intid fits = grind (arith)

pub intid-mapti : (ev intid : ℕ) → ev < 2 ^ 32 → intid < 2 ^ 32 → field (ev + intid * 2 ^ 32) 32 32 ≡ intid
intid-mapti ev intid fits below = grind (arith)

pub mapti-fits : (ev intid : ℕ) → ev < 2 ^ 32 → intid < 2 ^ 32 → ev + intid * 2 ^ 32 < 2 ^ 64
mapti-fits ev intid fits below = omega arith

-- ---- fields of bytes

pub in_first : (a b c d low width x : ℕ) → a < 2 ^ 64 → field a low width ≡ x → field (doubleword (doublewords a b c d) 0) low width ≡ x
in_first a b c d low width x fits e = ap (λ n. field n low width) (first-word a b c d fits) ∙ e

pub in_second : (a b c d low width x : ℕ) → b < 2 ^ 64 → field b low width ≡ x → field (doubleword (doublewords a b c d) 1) low width ≡ x
in_second a b c d low width x fits e = ap (λ n. field n low width) (second-word a b c d fits) ∙ e

pub in_third : (a b c d low width x : ℕ) → c < 2 ^ 64 → field c low width ≡ x → field (doubleword (doublewords a b c d) 2) low width ≡ x
in_third a b c d low width x fits e = ap (λ n. field n low width) (third-word a b c d fits) ∙ e

pub in_fourth : (a b c d low width x : ℕ) → d < 2 ^ 64 → field d low width ≡ x → field (doubleword (doublewords a b c d) 3) low width ≡ x
in_fourth a b c d low width x fits e = ap (λ n. field n low width) (fourth-word a b c d fits) ∙ e
