-- Numbers in form.
use Rattle.std.proofs.Common.{◌≡◌, ◌<◌, ◌≤◌, ◌∙◌, ℕ, Bool, true, false, List, [], ◌∷◌, cond, nat_lt, nat_le, Some, None, Result, Ok, Err, slice_index, refl}
use Rattle.std.proofs.Common.{sym, ap, arith, length, ◌^◌, ◌&&◌, Option, subst}
use Rattle.std.specs.Str.{all_ascii_digits, bytes_eq}
use Rattle.std.specs.Str.Parse.{ParsesUnsigned, digits_value}
use Rattle.std.specs.Result.{result_ok}
use Rattle.std.specs.Result.{OkIff}
use Rattle.std.proofs.lemmas.Str.Parse.{IsNumeralModel, numerals_by_value, tells_all_ascii_digits, parse_plain}
use Rattle.std.proofs.lemmas.Bool.{ltb-true, le-leb, lt-leb, leb-true}
use Rattle.std.proofs.lemmas.Bool.Decides.{nat_tests}
use Rattle.std.proofs.lemmas.Str.Parse.{digits_value-take-le}
use Rattle.std.specs.Char.{digit_value, is_ascii_digit}
use Rattle.clap.proofs.WalkLemmas.{both}
use Rattle.its_words.specs.Words.{number_of, number_or_zero_of}
use Rattle.its_words.proofs.Matches.{differ}

own : IsNumeralModel (λ ds. all_ascii_digits ds ≡ true) (digits_value 10)
own = numerals_by_value _ tells_all_ascii_digits

not_empty : (text : List ℕ) → 48 < slice_index text 0 → 0 < length text
not_empty [] h = omega arith
not_empty (x ∷ xs) h = omega arith

parsed : {E : Type 0} (text : List ℕ) (r : Result ℕ E) → ParsesUnsigned 32 10 text r → 48 < slice_index text 0
    → OkIff r ((all_ascii_digits text ≡ true) × (0 < length text) × (digits_value 10 text < 2 ^ 32)) (digits_value 10 text)
parsed text r h above = parse_plain own 32 text r h (λ plus. omega arith)

pub no_number : (last : ℕ) (text : List ℕ) → nat_lt 48 (slice_index text 0) ≡ false → None ≡ number_of last text
unfolding number_of
no_number last text e = rw e refl

pub bad_number : {E : Type 0} (last : ℕ) (text : List ℕ) (r : Result ℕ E) → ParsesUnsigned 32 10 text r → nat_lt 48 (slice_index text 0) ≡ true → last < 2 ^ 32
    → result_ok r ≡ None
    → None ≡ number_of last text
unfolding number_of
bad_number {E} last text (Ok n) h above fits none = cc
bad_number {E} last text (Err e) h above fits none =
    let first = ltb-true 48 _ above in
    let long = not_empty text first in
    let wrong = parsed {E = E} text (Err e) h first in
    rw above (go (all_ascii_digits text) refl (nat_le (digits_value 10 text) last) refl wrong long)
  where
    go : (d : Bool) → all_ascii_digits text ≡ d → (l : Bool) → nat_le (digits_value 10 text) last ≡ l
        → ((all_ascii_digits text ≡ true) × (0 < length text) × (digits_value 10 text < 2 ^ 32) → ⊥) → 0 < length text
        → None ≡ cond (all_ascii_digits text && nat_le (digits_value 10 text) last) (Some (digits_value 10 text)) None
    go false d l le bad long = rw d refl
    go true d false le bad long = rw (d, le) refl
    go true d true le bad long =
        let small = leb-true (digits_value 10 text) last le in
        absurd (bad (d, long, omega arith))

pub a_number : {E : Type 0} (last n : ℕ) (text : List ℕ) (r : Result ℕ E) → ParsesUnsigned 32 10 text r → nat_lt 48 (slice_index text 0) ≡ true → r ≡ Ok n
    → n ≤ last
    → Some n ≡ number_of last text
unfolding number_of
a_number {E} last n text (Err e) h above is le = cc
a_number {E} last n text (Ok m) h above is le =
    let got = parsed {E = E} text (Ok m) h (ltb-true 48 _ above) in
    let is_n : m ≡ n = cc in
    let same : n ≡ digits_value 10 text = sym is_n ∙ got.1 in
    let fits : nat_le (digits_value 10 text) last ≡ true = le-leb _ last (omega arith) in
    rw (above, got.0.0, fits) (ap (λ k. Some k) same)

pub large_number : {E : Type 0} (last n : ℕ) (text : List ℕ) (r : Result ℕ E) → ParsesUnsigned 32 10 text r → nat_lt 48 (slice_index text 0) ≡ true → r ≡ Ok n
    → last < n
    → None ≡ number_of last text
unfolding number_of
large_number {E} last n text (Err e) h above is lt = cc
large_number {E} last n text (Ok m) h above is lt =
    let got = parsed {E = E} text (Ok m) h (ltb-true 48 _ above) in
    let is_n : m ≡ n = cc in
    let same : n ≡ digits_value 10 text = sym is_n ∙ got.1 in
    let over : nat_le (digits_value 10 text) last ≡ false = lt-leb _ last (omega arith) in
    rw (above, got.0.0, over) refl

a_digit : (x : ℕ) → 48 < x → is_ascii_digit x ≡ true → 1 ≤ digit_value x
a_digit x above digit = grind (arith, nat_tests)

at_least_one : (text : List ℕ) → 48 < slice_index text 0 → all_ascii_digits text ≡ true → 1 ≤ digits_value 10 text
at_least_one [] above digits = absurd (omega arith)
at_least_one (x ∷ xs) above digits =
    let first : digits_value 10 (x ∷ []) ≤ digits_value 10 (x ∷ xs) = digits_value-take-le 10 (x ∷ xs) 1 (omega arith) in
    let one = a_digit x above (both (is_ascii_digit x) (all_ascii_digits xs) digits).0 in
    omega arith

-- a number lies in its range
pub in_range : (last n : ℕ) (text : List ℕ) → number_of last text ≡ Some n → (1 ≤ n) × (n ≤ last)
unfolding number_of
in_range last n text e = first (nat_lt 48 (slice_index text 0)) refl e
  where
    third : (l : Bool) → nat_le (digits_value 10 text) last ≡ l → nat_lt 48 (slice_index text 0) ≡ true → all_ascii_digits text ≡ true
        → cond l (Some (digits_value 10 text)) None ≡ Some n → (1 ≤ n) × (n ≤ last)
    third true l above digits e =
        let is : digits_value 10 text ≡ n = cc in
        let least = at_least_one text (ltb-true 48 _ above) digits in
        let most = leb-true (digits_value 10 text) last l in
        (omega arith, omega arith)
    third false l above digits e = cc

    second : (d : Bool) → all_ascii_digits text ≡ d → nat_lt 48 (slice_index text 0) ≡ true
        → cond (d && nat_le (digits_value 10 text) last) (Some (digits_value 10 text)) None ≡ Some n → (1 ≤ n) × (n ≤ last)
    second true d above e = third (nat_le (digits_value 10 text) last) refl above d e
    second false d above e = cc

    first : (a : Bool) → nat_lt 48 (slice_index text 0) ≡ a
        → cond (a && (all_ascii_digits text && nat_le (digits_value 10 text) last)) (Some (digits_value 10 text)) None ≡ Some n → (1 ≤ n) × (n ≤ last)
    first true a e = second (all_ascii_digits text) refl a e
    first false a e = cc

-- ---- from 0

pub no_number_from_0 : (last : ℕ) (text : List ℕ) → bytes_eq text (48 ∷ []) ≡ false → nat_lt 48 (slice_index text 0) ≡ false
    → None ≡ number_or_zero_of last text
unfolding number_or_zero_of
no_number_from_0 last text other e = rw other (no_number last text e)

pub is_zero : (last : ℕ) (text : List ℕ) → text ≡ 48 ∷ [] → Some 0 ≡ number_or_zero_of last text
unfolding number_or_zero_of
is_zero last text is = subst (λ (t : List ℕ). Some 0 ≡ number_or_zero_of last t) (sym is) refl

pub is_not_zero : (last : ℕ) (text : List ℕ) (r : Option ℕ) → (text ≡ 48 ∷ [] → ⊥) → r ≡ number_of last text → r ≡ number_or_zero_of last text
unfolding number_or_zero_of
is_not_zero last text r other is = rw (differ text (48 ∷ []) other) is
