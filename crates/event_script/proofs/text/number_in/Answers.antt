use Rattle.std.proofs.Common.{◌≡◌, ◌+◌, ◌*◌, ◌^◌, ◌≤◌, ◌<◌, true, get_or, length, nat_lt, sym, ap, refl, ◌∙◌, arith}
use Rattle.std.proofs.lemmas.Bool.{lt-ltb}
use Rattle.std.specs.Char.{digit_value}
use Rattle.std.proofs.lemmas.List.Folds.{list_all_more}
use Rattle.std.proofs.lemmas.Int.Digits.{digits_value_more}
use Rattle.event_script.proofs.Numbers.{number_in_large}
use Rattle.event_script.proofs.text.number_in.Goals as goal

pub returns-in_err-value : goal.returns-in_err-value
returns-in_err-value c =
    let p = c.in_ok-digit.ensures.value in
    let digit : digit_value (get_or c.args.digits.now c.loop-c.c-index 0) ≡ c.in_ok-digit.digit = ap digit_value (sym c.from.ensures) ∙ sym p.1 in
    let over : (c.loop-c.value * c.args.base + c.in_ok-digit.digit < 2 ^ 64) → ⊥ = c.in_err-value.ensures in
    let large : 2 ^ 64 ≤ c.loop-c.value * c.args.base + c.in_ok-digit.digit = omega (arith, over) in
    c.from_residual-in_err-value.ensures ∙ sym (number_in_large c.args.base c.args.digits.now c.loop-c.c-index _ c.in_ok-digit.digit (omega arith)
    (omega arith) refl digit (rw (← c.loop-c.invariant.value) large))

pub loop-c-preserved : goal.loop-c-preserved
loop-c-preserved c =
    let p = c.in_ok-digit.ensures.value in
    let digit : digit_value (get_or c.args.digits.now c.loop-c.c-index 0) ≡ c.in_ok-digit.digit = ap digit_value (sym c.from.ensures) ∙ sym p.1 in
    let test : nat_lt (digit_value (get_or c.args.digits.now c.loop-c.c-index 0)) c.args.base ≡ true = rw digit (lt-ltb _ _ (omega (arith, p.0, p.1))) in
    let lt : c.loop-c.c-index < length c.args.digits.now = omega arith in
    record {
      digits = list_all_more (λ x. nat_lt (digit_value x) c.args.base) c.args.digits.now c.loop-c.c-index 0 lt ∙ rw (c.loop-c.invariant.digits, test) refl;
      fits = (let v : _ = c.in_ok-value.ensures in omega (arith, v.0, v.1));
      value = (let v : _ = c.in_ok-value.ensures in v.1) ∙ sym (digits_value_more c.args.base c.args.digits.now c.loop-c.c-index lt
          ∙ rw (digit, ← c.loop-c.invariant.value) refl);
    }
