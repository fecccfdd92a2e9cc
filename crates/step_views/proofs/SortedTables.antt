-- The first place of a table, of sorted ones.
use Rattle.std.proofs.Common.{◌≡◌, ℕ, ◌<◌, ◌≤◌, true, false, List, length, get_or, ◌∙◌, inl, inr, arith}
use Rattle.std.specs.List.{Contains}
use Rattle.std.specs.List.Sorted.{IsNonDecreasing}
use Rattle.std.proofs.lemmas.Bool.{cases_lt, ltb-true, ltb-false}
use Rattle.std.proofs.lemmas.List.{get_or_default}
use Rattle.step_views.specs.Firsts.{IsPlace}
use lib.Dec.{ltb}

module _ (tables : List ℕ) (table p : ℕ) (sorted : IsNonDecreasing tables) (there : Contains tables table)
    (pass : (k d : ℕ) → 0 ≤ k → k < p → ltb (get_or tables k d) table ≡ true)
    (fail : (k d : ℕ) → p ≤ k → k < length tables → ltb (get_or tables k d) table ≡ false) where
  -- it isn't after a place where the table is
  not_after : p ≤ there.0
  not_after =
      elim (cases_lt there.0 p) [
        | inl lt ↦ let low = ltb-true (get_or tables there.0 table) table (pass there.0 table (omega arith) lt) in let is = there.2 in absurd (omega (arith, low, is))
        | inr le ↦ le
      ]

  inside : p < length tables
  inside = let h = not_after in let k = there.1 in omega (arith, h, k)

  pub place_is : IsPlace tables table p
  place_is = record {
    inside = inside;
    is =
        let high = ltb-false (get_or tables p table) table (fail p table (omega arith) inside) in
        let low = sorted p there.0 table not_after there.1 in
        let same = there.2 in
        get_or_default tables p 0 table inside ∙ omega (arith, high, low, same);
    below = λ k lt. ltb-true (get_or tables k 0) table (pass k 0 (omega arith) lt);
  }
