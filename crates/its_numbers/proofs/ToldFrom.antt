-- Of a walk over numbered items those are told, from a number on, that a list takes.
use Rattle.std.proofs.Common.{◌≡◌, ◌<◌, ◌≤◌, ◌+◌, ℕ, true, false, List, [], ◌∷◌, drop, length, map, min, Some, refl, sym, ap, ◌∙◌, subst, arith}
use Rattle.std.specs.Prelude.{nat_le, slice_get, slice_set}
use Rattle.std.specs.Option.{option_map}
use Rattle.std.proofs.lemmas.List.{length-map}
use Rattle.std.proofs.lemmas.Option.{slice_get-map}
use Rattle.its_numbers.specs.Lists.{HasFirstOf, SameRest}
use Rattle.its_numbers.specs.Mapped.{from_on}
use Rattle.its_numbers.proofs.ToldLists.{told_next, rest_next, length_next, next_left}

-- the first of them are told in the first places of the list, and the rest of the list is as it was
pub record IsTold {A B : Type 0} (out : ℕ × A → B) (n : ℕ) (all left : List (ℕ × A)) (before now : List B) (at : ℕ) : Type 0 where
  pub rest_is : drop at (from_on n all) ≡ from_on n left
  pub count : at + length (from_on n left) ≡ length (from_on n all)
  pub within : at ≤ length now
  pub same_length : length now ≡ length before
  pub told : (i : ℕ) → i < at → slice_get now i ≡ slice_get (map out (from_on n all)) i
  pub rest : SameRest at before now

-- what is said of the list in the end
pub record IsListed {B : Type 0} (items before now : List B) (count : ℕ) : Type 0 where
  pub told : HasFirstOf items now
  pub rest : SameRest (length items) before now
  pub same_length : length now ≡ length before
  pub count_is : count ≡ min (length before) (length items)

kept_more : {A : Type 0} (n : ℕ) (x : ℕ × A) (xs : List (ℕ × A)) → nat_le n x.0 ≡ true → from_on n (x ∷ xs) ≡ x ∷ from_on n xs
kept_more n x xs is = rw is refl

kept_less : {A : Type 0} (n : ℕ) (x : ℕ × A) (xs : List (ℕ × A)) → nat_le n x.0 ≡ false → from_on n (x ∷ xs) ≡ from_on n xs
kept_less n x xs is = rw is refl

module _ {A B : Type 0} (out : ℕ × A → B) (n : ℕ) (all : List (ℕ × A)) (before : List B) where
  pub told_first : IsTold out n all all before before 0
  told_first = record {
    rest_is = refl;
    count = omega arith;
    within = omega arith;
    same_length = refl;
    told = λ i (below : i < 0). absurd (omega (arith, below));
    rest = λ i past. refl;
  }

  module _ (left : List (ℕ × A)) (now : List B) (at : ℕ) where
    module _ (x : ℕ × A) (is : IsTold out n all (x ∷ left) before now at) where
      -- one that lies below is passed over
      pub told_below : nat_le n x.0 ≡ false → IsTold out n all left before now at
      told_below below = record {
        rest_is = is.rest_is ∙ kept_less n x left below;
        count = ap (λ (l : List (ℕ × A)). at + length l) (sym (kept_less n x left below)) ∙ is.count;
        within = is.within;
        same_length = is.same_length;
        told = is.told;
        rest = is.rest;
      }

      -- another is told where the list has a place
      pub told_more : nat_le n x.0 ≡ true → at < length now → IsTold out n all left before (slice_set now at (out x)) (at + 1)
      told_more kept room =
          let next = next_left (from_on n left) x (from_on n all) at (is.rest_is ∙ kept_more n x left kept) in
          let long = ap length (kept_more n x left kept) in
          let count = is.count in
          let here : slice_get (map out (from_on n all)) at ≡ Some (out x) = slice_get-map out (from_on n all) at ∙ ap (option_map out) next.0 in
          record {
            rest_is = next.1;
            count = omega (arith, long, count);
            within = subst (λ k. at + 1 ≤ k) (sym (length_next now at (out x) (length now) refl)) (omega (arith, room));
            same_length = length_next now at (out x) (length before) is.same_length;
            told = told_next now at (out x) (map out (from_on n all)) room here is.told;
            rest = rest_next now at (out x) before is.rest;
          }

      -- or it has none
      pub told_full : nat_le n x.0 ≡ true → length now ≤ at → IsListed (map out (from_on n all)) before now at
      told_full kept full =
          let items = map out (from_on n all) in
          let long = ap length (kept_more n x left kept) in
          let count = is.count in
          let within = is.within in
          let same = is.same_length in
          let many : length items ≡ length (from_on n all) = length-map (from_on n all) out in
          record {
            told = λ i below inside. is.told i (omega (arith, inside, full));
            rest = λ i past. is.rest i (omega (arith, past, many, count, long));
            same_length = same;
            count_is = omega (arith, same, within, full, many, count, long);
          }

    -- all were told
    pub told_all : IsTold out n all [] before now at → IsListed (map out (from_on n all)) before now at
    told_all is =
        let items = map out (from_on n all) in
        let count = is.count in
        let within = is.within in
        let same = is.same_length in
        let many : length items ≡ length (from_on n all) = length-map (from_on n all) out in
        record {
          told = λ i below inside. is.told i (omega (arith, below, many, count));
          rest = λ i past. is.rest i (omega (arith, past, many, count));
          same_length = same;
          count_is = omega (arith, same, within, many, count);
        }
