-- Numbers that are read as they are printed, and bytes that print are text.
use Rattle.std.proofs.Common.{◌≡◌, ◌≢◌, ℕ, zero, suc, ◌^◌, ◌<◌, Bool, true, false, List, [], ◌∷◌, Option, Some, None, Result, Ok, refl, sym, ap, subst, ◌∙◌}
use Rattle.std.proofs.Common.{arith}
use Rattle.std.specs.Prelude.{◌&&◌, nat_lt, nat_le}
use Rattle.std.specs.Fmt.{decimal}
use Rattle.std.specs.Str.{bytes_eq, IsAscii, IsUtf8}
use Rattle.std.specs.Str.Parse.{digits_value, ParsesUnsigned}
use Rattle.std.proofs.lemmas.Bool.{ltb-true, lt-ltb, leb-true}
use Rattle.std.proofs.lemmas.Fmt.{decimal_is_IsNumeral, parse-decimal, IsAscii-decimal}
use Rattle.std.proofs.lemmas.Slice.Eq.{bytes_eq-Decides}
use Rattle.std.proofs.lemmas.Str.{IsUtf8-from_ascii}
use Rattle.its_history.specs.Reading.{only, small_number, is_printed}

pub left_true : (a b : Bool) → (a && b) ≡ true → a ≡ true
left_true true b e = refl
left_true false b e = absurd cc

pub right_true : (a b : Bool) → (a && b) ≡ true → b ≡ true
right_true true b e = e
right_true false b e = absurd cc

pub both_true : (a b : Bool) → a ≡ true → b ≡ true → (a && b) ≡ true
both_true true b e f = f
both_true false b e f = absurd cc

pub same_text : (xs ys : List ℕ) → bytes_eq xs ys ≡ true → xs ≡ ys
same_text xs ys e = (bytes_eq-Decides xs ys).0 e

pub texts_equal : (xs ys : List ℕ) → xs ≡ ys → bytes_eq xs ys ≡ true
texts_equal xs ys e = (bytes_eq-Decides xs ys).1 e

-- ---- numbers

abbrev test : List ℕ → Bool
test text = nat_lt (digits_value 10 text) (2 ^ 32) && bytes_eq (decimal (digits_value 10 text)) text

passes : (n : ℕ) (text : List ℕ) → n < 2 ^ 32 → decimal n ≡ text → (digits_value 10 text ≡ n) × (test text ≡ true)
passes n text lt e =
    let value : digits_value 10 text ≡ n = ap (digits_value 10) (sym e) ∙ (decimal_is_IsNumeral n (omega (arith, lt))).1 in (
      value,
      both_true (nat_lt (digits_value 10 text) (2 ^ 32)) (bytes_eq (decimal (digits_value 10 text)) text) (lt-ltb _ _ (omega (arith, value, lt)))
          (texts_equal _ text (ap decimal value ∙ e)),
    )

pub number_is : (n : ℕ) (text : List ℕ) → n < 2 ^ 32 → decimal n ≡ text → small_number text ≡ Some n
unfolding small_number
number_is n text lt e = let p = passes n text lt e in rw (p.1, p.0) refl

-- one that is read is printed so
number_by : (text : List ℕ) (n : ℕ) (b : Bool) → test text ≡ b → only b (digits_value 10 text) ≡ Some n → (n < 2 ^ 32) × (decimal n ≡ text)
number_by text n true t e =
    let value : digits_value 10 text ≡ n = cc in
    let small = ltb-true (digits_value 10 text) (2 ^ 32) (left_true _ (bytes_eq (decimal (digits_value 10 text)) text) t) in (
      omega (arith, value, small),
      ap decimal (sym value) ∙ same_text (decimal (digits_value 10 text)) text
          (right_true (nat_lt (digits_value 10 text) (2 ^ 32)) _ t),
    )
number_by text n false t e = absurd cc

pub number_printed : (text : List ℕ) (n : ℕ) → small_number text ≡ Some n → (n < 2 ^ 32) × (decimal n ≡ text)
unfolding small_number
number_printed text n e = number_by text n (test text) refl e

none_by : (text : List ℕ) (o : Option ℕ) → small_number text ≡ o → ((n : ℕ) → n < 2 ^ 32 → decimal n ≢ text) → small_number text ≡ None
none_by text None e f = e
none_by text (Some n) e f = let p = number_printed text n e in absurd (f n p.0 p.1)

pub number_none : (text : List ℕ) → ((n : ℕ) → n < 2 ^ 32 → decimal n ≢ text) → small_number text ≡ None
number_none text f = none_by text (small_number text) refl f

-- a number that is printed so is text, and is parsed
pub number_is_text : (n : ℕ) (text : List ℕ) → n < 2 ^ 32 → decimal n ≡ text → IsUtf8 text
number_is_text n text lt e = subst IsUtf8 e (IsUtf8-from_ascii (decimal n) (IsAscii-decimal n (omega (arith, lt))))

pub number_is_parsed : {E : Type 0} (n : ℕ) (text : List ℕ) (r : Result ℕ E) → n < 2 ^ 32 → decimal n ≡ text → ParsesUnsigned 32 10 text r → r ≡ Ok n
number_is_parsed n text r lt e h = parse-decimal 32 n text r lt (omega (arith, lt)) (sym e) h

-- ---- texts

-- bytes that print are ASCII
pub printed_ascii : (text : List ℕ) → is_printed text ≡ true → IsAscii text
printed_ascii [] e i = omega arith
printed_ascii (b ∷ bs) e zero =
    let here : (nat_le 32 b && nat_le b 126) ≡ true = left_true (nat_le 32 b && nat_le b 126) (is_printed bs) e in
    omega (arith, leb-true b 126 (right_true (nat_le 32 b) (nat_le b 126) here))
printed_ascii (b ∷ bs) e (suc i) = printed_ascii bs (right_true (nat_le 32 b && nat_le b 126) (is_printed bs) e) i

pub printed_is_text : (text : List ℕ) → is_printed text ≡ true → IsUtf8 text
printed_is_text text e = IsUtf8-from_ascii text (printed_ascii text e)
