-- Bytes that a script gives are below 256.
use Rattle.std.proofs.Common.{◌≡◌, ℕ, zero, suc, ◌+◌, ◌-◌, ◌*◌, ◌%◌, ◌<◌, ◌==◌, true, ◌&&◌, nat_lt, nat_le, List, [], ◌∷◌, ◌++◌, length, Option}
use Rattle.std.proofs.Common.{Some, None, Result, Ok}
use Rattle.std.proofs.Common.{Err, IfOk, refl, ◌∙◌, arith}
use Rattle.std.specs.Prelude.{IfSome}
use Rattle.std.specs.Int.{byte_at, bytes_low_first}
use Rattle.std.proofs.lemmas.Bool.{lt-ltb, leb-true, and_parts, and_from, cond_both}
use Rattle.std.proofs.lemmas.List.Folds.{list_all-append}
use Rattle.byteorder.specs.Endian.{little_bytes}
use Rattle.hex.specs.Hex.{decode_of, decode_pairs, pair_value, value_at, digit_or_error, hex_digit_value, ◌>>=◌}
use Rattle.hex.specs.declared.error.FromHexError.{FromHexError}
use Rattle.hex.specs.declared.error.FromHexError.TheVariants.{OddLength}
use Rattle.its_command.specs.Commands.{doublewords, of_device, at_target, at_valid, encoded}
use Rattle.its_command.specs.declared.command.Command.{Command}
use Rattle.its_command.specs.declared.command.Command.TheVariants as command
use Rattle.event_script.specs.Limits.{are_bytes}

-- ---- those of a number

byte_small : (i n : ℕ) → nat_lt (byte_at i n) 256 ≡ true
byte_small zero n = lt-ltb (byte_at zero n) 256 (omega arith)
byte_small (suc i) n = lt-ltb (byte_at (suc i) n) 256 (omega arith)

low_bytes_small : (i k n : ℕ) → are_bytes (bytes_low_first i k n) ≡ true
low_bytes_small i zero n = refl
low_bytes_small i (suc k) n =
    and_from (nat_lt (byte_at i n) 256) (are_bytes (bytes_low_first (suc i) k n)) (byte_small i n) (low_bytes_small (suc i) k n)

pub little_bytes_small : (k n : ℕ) → are_bytes (little_bytes k n) ≡ true
little_bytes_small k n = low_bytes_small 0 k n

-- ---- those of a command

pub bytes_appended : (xs ys : List ℕ) → are_bytes xs ≡ true → are_bytes ys ≡ true → are_bytes (xs ++ ys) ≡ true
bytes_appended xs ys p q = list_all-append (λ b. nat_lt b 256) xs ys ∙ and_from (are_bytes xs) (are_bytes ys) p q

doublewords_small : (a b c d : ℕ) → are_bytes (doublewords a b c d) ≡ true
doublewords_small a b c d =
    bytes_appended (little_bytes 8 a) (little_bytes 8 b ++ little_bytes 8 c ++ little_bytes 8 d) (little_bytes_small 8 a)
    (bytes_appended (little_bytes 8 b) (little_bytes 8 c ++ little_bytes 8 d) (little_bytes_small 8 b)
    (bytes_appended (little_bytes 8 c) (little_bytes 8 d) (little_bytes_small 8 c) (little_bytes_small 8 d)))

pub encoded_bytes : (c : Command) → are_bytes (encoded c) ≡ true
unfolding encoded
encoded_bytes (command.Movi dev ev icid) = doublewords_small (of_device 0x01 dev.0) ev.0 icid.0 0
encoded_bytes (command.Int dev ev) = doublewords_small (of_device 0x03 dev.0) ev.0 0 0
encoded_bytes (command.Clear dev ev) = doublewords_small (of_device 0x04 dev.0) ev.0 0 0
encoded_bytes (command.Sync target) = doublewords_small 0x05 0 (at_target target) 0
encoded_bytes (command.Mapd dev bits itt valid) = doublewords_small (of_device 0x08 dev.0) (bits - 1) (itt + at_valid valid) 0
encoded_bytes (command.Mapc icid target valid) = doublewords_small 0x09 0 (icid.0 + at_target target + at_valid valid) 0
encoded_bytes (command.Mapti dev ev intid icid) = doublewords_small (of_device 0x0A dev.0) (ev.0 + intid.0 * 4294967296) icid.0 0
encoded_bytes (command.Mapi dev ev icid) = doublewords_small (of_device 0x0B dev.0) ev.0 icid.0 0
encoded_bytes (command.Inv dev ev) = doublewords_small (of_device 0x0C dev.0) ev.0 0 0
encoded_bytes (command.Invall icid) = doublewords_small 0x0D 0 icid.0 0
encoded_bytes (command.Movall from to) = doublewords_small 0x0E 0 (at_target from) (at_target to)
encoded_bytes (command.Discard dev ev) = doublewords_small (of_device 0x0F dev.0) ev.0 0 0
encoded_bytes (command.Unknown opcode) = doublewords_small opcode 0 0 0

-- ---- those of hexadecimal digits

bound_by : {A B : Type 0} (P : A → Type 0) (Q : B → Type 0) (r : Result A FromHexError) (f : A → Result B FromHexError) → IfOk r P
    → ((x : A) → P x → IfOk (f x) Q) → IfOk (r >>= f) Q
bound_by P Q (Ok x) f p q = q x p
bound_by P Q (Err e) f p q = tt

-- what a digit from `low` to `high` is worth, where `low` is worth so much
within : (c low high from : ℕ) → (nat_le low c && nat_le c high) ≡ true → high < from + 16 → c - from < 16
within c low high from e h = (let most = leb-true c high (and_parts (nat_le low c) (nat_le c high) e).1 in omega (arith, most))

abbrev IsDigit : Option ℕ → Type 0
IsDigit o = IfSome o (λ v. v < 16)

digit_small : (c : ℕ) → IsDigit (hex_digit_value c)
digit_small c =
    cond_both (nat_le 65 c && nat_le c 70) (Some (c - 55)) _ IsDigit (λ e. within c 65 70 55 e (omega arith)) (λ _.
    cond_both (nat_le 97 c && nat_le c 102) (Some (c - 87)) _ IsDigit (λ e. within c 97 102 87 e (omega arith)) (λ _.
    cond_both (nat_le 48 c && nat_le c 57) (Some (c - 48)) None IsDigit (λ e. within c 48 57 48 e (omega arith)) (λ _. tt)))

value_small : (c i : ℕ) (o : Option ℕ) → IsDigit o → IfOk (digit_or_error c i o) (λ v. v < 16)
value_small c i (Some v) h = h
value_small c i None h = tt

abbrev IsByte : ℕ → Type 0
IsByte b = nat_lt b 256 ≡ true

pair_small : (a b i : ℕ) → IfOk (pair_value a b i) IsByte
pair_small a b i =
    bound_by (λ v. v < 16) IsByte (value_at a i) _ (value_small a i (hex_digit_value a) (digit_small a)) (λ h high.
    bound_by (λ v. v < 16) IsByte (value_at b (i + 1)) _ (value_small b (i + 1) (hex_digit_value b) (digit_small b)) (λ l low.
    lt-ltb (h * 16 + l) 256 (omega (arith, high, low))))

abbrev AreBytes : List ℕ → Type 0
AreBytes bytes = are_bytes bytes ≡ true

pairs_small : (i : ℕ) (s : List ℕ) → IfOk (decode_pairs i s) AreBytes
unfolding decode_pairs
pairs_small i [] = refl
pairs_small i (digit ∷ []) = tt
pairs_small i (high ∷ (low ∷ rest)) =
    bound_by IsByte AreBytes (pair_value high low i) _ (pair_small high low i) (λ byte small.
    bound_by AreBytes AreBytes (decode_pairs (i + 2) rest) _ (pairs_small (i + 2) rest) (λ bytes all.
    and_from (nat_lt byte 256) (are_bytes bytes) small all))

pub decoded_bytes : (f : List ℕ) → IfOk (decode_of f) AreBytes
decoded_bytes f =
    let odd : Result (List ℕ) FromHexError = Err OddLength in
    cond_both (length f % 2 == 1) odd (decode_pairs 0 f) (λ r. IfOk r AreBytes) (λ _. tt) (λ _. pairs_small 0 f)
