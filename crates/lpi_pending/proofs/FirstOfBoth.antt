-- The first number that passes two tests, found after the first that passes one of them.
use Rattle.std.proofs.Common.{◌≡◌, ℕ, ◌≤◌, ◌<◌, Bool, true, false, refl, sym, ap, ◌∙◌, inl, inr, Some, None, bit_and, arith}
use Rattle.std.specs.Prelude.{◌&&◌, Option}
use Rattle.std.proofs.lemmas.Bool.{cases_lt}
use Rattle.its_types.specs.Bits.{bit_of}
use Rattle.lpi_pending.specs.Searches.{NoneIn, IsFirstIn, FirstIn}
use Rattle.lpi_pending.proofs.Bits.{bit_of-and}

first_fails : (a b : Bool) → a ≡ false → (a && b) ≡ false
first_fails a b is = rw is refl

pub none_of_both : (p q : ℕ → Bool) (low high : ℕ) → NoneIn p low high → NoneIn (λ k. p k && q k) low high
none_of_both p q low high none y from below = first_fails (p y) (q y) (none y from below)

-- the first that passes one test passes the other too
pub first_passes : (p q : ℕ → Bool) (low high x : ℕ) → IsFirstIn p low high x → q x ≡ true → IsFirstIn (λ k. p k && q k) low high x
first_passes p q low high x first passes = record {
  from = first.from;
  below = first.below;
  met = rw (first.met, passes) refl;
  before = none_of_both p q low x first.before;
}

none_past : (used below : ℕ) (q : ℕ → Bool) (from first high : ℕ) → high ≤ 64 → NoneIn (bit_of used) from first
    → ((k : ℕ) → k < 64 → bit_of below k ≡ q k) → NoneIn (bit_of (bit_and used below)) first high → NoneIn (λ k. bit_of used k && q k) from high
none_past used below q from first high le before bits none y low lt =
    elim (cases_lt y first) [
      | inl earlier ↦ first_fails (bit_of used y) (q y) (before y low earlier)
      | inr later ↦
          ap (λ b. bit_of used y && b) (sym (bits y (omega (arith, le, lt)))) ∙ sym (bit_of-and used below y) ∙ none y later lt
    ]

-- the first from it on, by a word of those that pass the other
pub first_past : (used below : ℕ) (q : ℕ → Bool) (from first : ℕ) (found : Option ℕ) → from ≤ first → NoneIn (bit_of used) from first
    → ((k : ℕ) → k < 64 → bit_of below k ≡ q k) → FirstIn (bit_of (bit_and used below)) first 64 found → FirstIn (λ k. bit_of used k && q k) from 64 found
first_past used below q from first None le before bits none = none_past used below q from first 64 (omega arith) before bits none
first_past used below q from first (Some x) le before bits is = record {
  from = omega (arith, le, is.from);
  below = is.below;
  met = ap (λ b. bit_of used x && b) (sym (bits x is.below)) ∙ sym (bit_of-and used below x) ∙ is.met;
  before = none_past used below q from first x (let lt = is.below in omega (arith, lt)) before bits is.before;
}
