-- Times that are read as they are printed.
use Rattle.std.proofs.Common.{◌≡◌, ◌≢◌, ℕ, ◌^◌, ◌<◌, Bool, true, false, List, Option, Some, None, Result, Ok, refl, sym, ap, subst, ◌∙◌}
use Rattle.std.proofs.Common.{arith}
use Rattle.std.specs.Prelude.{◌&&◌, nat_lt}
use Rattle.std.specs.Fmt.{decimal}
use Rattle.std.specs.Str.{bytes_eq, IsUtf8}
use Rattle.std.specs.Str.Parse.{digits_value, ParsesUnsigned}
use Rattle.std.proofs.lemmas.Bool.{ltb-true, lt-ltb}
use Rattle.std.proofs.lemmas.Fmt.{decimal_is_IsNumeral, parse-decimal, IsAscii-decimal}
use Rattle.std.proofs.lemmas.Str.{IsUtf8-from_ascii}
use Rattle.its_history.specs.Reading.{only}
use Rattle.its_history.proofs.ReadNumbers.{both_true, left_true, right_true, same_text, texts_equal}
use Rattle.fit_answers.specs.ToldText.{time}

abbrev test : List ℕ → Bool
test text = nat_lt (digits_value 10 text) (2 ^ 64) && bytes_eq (decimal (digits_value 10 text)) text

passes : (n : ℕ) (text : List ℕ) → n < 2 ^ 64 → decimal n ≡ text → (digits_value 10 text ≡ n) × (test text ≡ true)
passes n text lt e =
    let value : digits_value 10 text ≡ n = ap (digits_value 10) (sym e) ∙ (decimal_is_IsNumeral n (omega (arith, lt))).1 in (
      value,
      both_true (nat_lt (digits_value 10 text) (2 ^ 64)) (bytes_eq (decimal (digits_value 10 text)) text) (lt-ltb _ _ (omega (arith, value, lt)))
          (texts_equal _ text (ap decimal value ∙ e)),
    )

pub time_is : (n : ℕ) (text : List ℕ) → n < 2 ^ 64 → decimal n ≡ text → time text ≡ Some n
unfolding time
time_is n text lt e = let p = passes n text lt e in rw (p.1, p.0) refl

-- one that is read is printed so
time_by : (text : List ℕ) (n : ℕ) (b : Bool) → test text ≡ b → only b (digits_value 10 text) ≡ Some n → (n < 2 ^ 64) × (decimal n ≡ text)
time_by text n true t e =
    let value : digits_value 10 text ≡ n = cc in
    let small = ltb-true (digits_value 10 text) (2 ^ 64) (left_true _ (bytes_eq (decimal (digits_value 10 text)) text) t) in (
      omega (arith, value, small),
      ap decimal (sym value) ∙ same_text (decimal (digits_value 10 text)) text
          (right_true (nat_lt (digits_value 10 text) (2 ^ 64)) _ t),
    )
time_by text n false t e = absurd cc

time_printed : (text : List ℕ) (n : ℕ) → time text ≡ Some n → (n < 2 ^ 64) × (decimal n ≡ text)
unfolding time
time_printed text n e = time_by text n (test text) refl e

none_by : (text : List ℕ) (o : Option ℕ) → time text ≡ o → ((n : ℕ) → n < 2 ^ 64 → decimal n ≢ text) → time text ≡ None
none_by text None e f = e
none_by text (Some n) e f = let p = time_printed text n e in absurd (f n p.0 p.1)

pub time_none : (text : List ℕ) → ((n : ℕ) → n < 2 ^ 64 → decimal n ≢ text) → time text ≡ None
time_none text f = none_by text (time text) refl f

-- a number that is printed so is text, and is parsed
pub time_is_text : (n : ℕ) (text : List ℕ) → n < 2 ^ 64 → decimal n ≡ text → IsUtf8 text
time_is_text n text lt e = subst IsUtf8 e (IsUtf8-from_ascii (decimal n) (IsAscii-decimal n (omega (arith, lt))))

pub time_is_parsed : {E : Type 0} (n : ℕ) (text : List ℕ) (r : Result ℕ E) → n < 2 ^ 64 → decimal n ≡ text → ParsesUnsigned 64 10 text r → r ≡ Ok n
time_is_parsed n text r lt e h = parse-decimal 64 n text r lt (omega (arith, lt)) (sym e) h
