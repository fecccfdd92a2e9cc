-- The lines of requesters, one after another.
use Rattle.std.proofs.Common.{◌≡◌, ℕ, zero, suc, ◌+◌, ◌<◌, Bool, true, false, List, [], ◌∷◌, take, drop, length, get_or, Err, refl, sym, ap, ◌∙◌, arith}
use Rattle.std.specs.Prelude.{◌&&◌, ◌||◌, not, nat_le, nat_lt, ◌-◌, ◌^◌, if◌then◌else◌}
use Rattle.std.specs.List.{list_any}
use Rattle.its_plain.specs.Machine.{all_new, are_new, meet}
use Rattle.its_plain.specs.declared.desc.Requesters.{Requesters}
use Rattle.its_plain.specs.declared.desc.DescFault.TheVariants.{Requesters as BadRequesters}

or_swaps : (a b : Bool) → (a || b) ≡ (b || a)
or_swaps true true = refl
or_swaps true false = refl
or_swaps false true = refl
or_swaps false false = refl

or_joins : (a b c : Bool) → (a || (b || c)) ≡ ((a || b) || c)
or_joins true b c = refl
or_joins false b c = refl

take_more : (f : Requesters → Bool) (xs : List Requesters) (n : ℕ) (d : Requesters) → n < length xs
    → list_any f (take (suc n) xs) ≡ (list_any f (take n xs) || f (get_or xs n d))
take_more f [] n d lt = absurd (omega arith)
take_more f (x ∷ xs) zero d lt = or_swaps (f x) false
take_more f (x ∷ xs) (suc n) d lt =
    ap (λ (b : Bool). f x || b) (take_more f xs n d (omega arith)) ∙ or_joins (f x) (list_any f (take n xs)) (f (get_or xs n d))

drop_here : (xs : List Requesters) (n : ℕ) (d : Requesters) → n < length xs → drop n xs ≡ get_or xs n d ∷ drop (suc n) xs
drop_here [] n d lt = absurd (omega arith)
drop_here (x ∷ xs) zero d lt = refl
drop_here (x ∷ xs) (suc n) d lt = drop_here xs n d (omega arith)

module _ (xs before : List Requesters) (n : ℕ) (d : Requesters) (lt : n < length xs)
    (same : (r : Requesters) → list_any (meet r) before ≡ list_any (meet r) (take n xs)) where
  abbrev pub line : Requesters
  line = get_or xs n d

  new_alike : are_new before line ≡ are_new (take n xs) line
  new_alike = ap (λ (b : Bool). nat_le line.first line.last && nat_lt (line.dev.0 + (line.last - line.first)) (2 ^ 32) && not b) (same line)

  pub line_wrong : are_new (take n xs) line ≡ false → all_new before n (drop n xs) ≡ Err (BadRequesters n)
  line_wrong e =
      ap (all_new before n) (drop_here xs n d lt)
      ∙ ap (λ (b : Bool). if b then all_new (line ∷ before) (suc n) (drop (suc n) xs) else Err (BadRequesters n)) (new_alike ∙ e)

  pub line_right : are_new (take n xs) line ≡ true → all_new before n (drop n xs) ≡ all_new (line ∷ before) (suc n) (drop (suc n) xs)
  line_right e =
      ap (all_new before n) (drop_here xs n d lt)
      ∙ ap (λ (b : Bool). if b then all_new (line ∷ before) (suc n) (drop (suc n) xs) else Err (BadRequesters n)) (new_alike ∙ e)

  pub one_more : (r : Requesters) → list_any (meet r) (line ∷ before) ≡ list_any (meet r) (take (suc n) xs)
  one_more r =
      ap (λ (b : Bool). meet r line || b) (same r) ∙ or_swaps (meet r line) (list_any (meet r) (take n xs)) ∙ sym (take_more (meet r) xs n d lt)
