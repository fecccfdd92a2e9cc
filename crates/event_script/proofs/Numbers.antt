-- A number is read digit by digit.
use Rattle.std.proofs.Common.{◌≡◌, ℕ, ◌+◌, ◌*◌, ◌^◌, ◌<◌, ◌≤◌, Bool, true, false, List, length, get_or, take, nat_lt, None, refl, ap, ◌∙◌, arith}
use Rattle.std.specs.Prelude.{◌&&◌}
use Rattle.std.specs.List.{list_all}
use Rattle.std.specs.Char.{digit_value}
use Rattle.std.proofs.lemmas.Bool.{le-ltb}
use Rattle.std.proofs.lemmas.Int.Digits.{digits_value_more}
use Rattle.std.proofs.lemmas.Str.Parse.{digits_value-take-le}
use Rattle.std.proofs.lemmas.List.Folds.{list_all_at}
use Rattle.std.specs.Str.Parse.{digits_value}
use Rattle.event_script.specs.Text.{are_digits, number_in}

and_false : (a b : Bool) → b ≡ false → (a && b) ≡ false
and_false true b e = e
and_false false b e = refl

-- a front that is too large already
pub number_in_large : (base : ℕ) (ds : List ℕ) (i c d : ℕ) → 1 ≤ base → i < length ds → get_or ds i 0 ≡ c → digit_value c ≡ d
    → 2 ^ 64 ≤ digits_value base (take i ds) * base + d → number_in base ds ≡ None
number_in_large base ds i c d low lt at is large =
    let more : digits_value base (take (i + 1) ds) ≡ digits_value base (take i ds) * base + d = digits_value_more base ds i lt
    ∙ ap (λ x. digits_value base (take i ds) * base + digit_value x) at ∙ ap (λ x. digits_value base (take i ds) * base + x) is in
    let all : 2 ^ 64 ≤ digits_value base ds = omega (arith, more, digits_value-take-le base ds (i + 1) low) in
    let test : (are_digits base ds && nat_lt (digits_value base ds) (2 ^ 64)) ≡ false = and_false (are_digits base ds) _ (le-ltb _ _ all) in
    rw test refl

-- a byte that is no digit
pub number_in_other : (base : ℕ) (ds : List ℕ) (i c : ℕ) → i < length ds → get_or ds i 0 ≡ c → base ≤ digit_value c → number_in base ds ≡ None
number_in_other base ds i c lt at le =
    let no : list_all (λ x. nat_lt (digit_value x) base) ds ≡ false = list_all_at (λ x. nat_lt (digit_value x) base) ds i 0 lt (rw at (le-ltb _ _ le)) in
    let test : are_digits base ds ≡ false = and_false (nat_lt 0 (length ds)) _ no in
    rw test refl
