-- Where a walk over pages goes on.
use Rattle.std.proofs.Common.{◌≡◌, ℕ, suc, ◌+◌, ◌*◌, ◌<◌, ◌≤◌, List, [], ◌∷◌, ◌++◌, length, take, drop, Option, Some, None, refl, sym, ap, ◌∙◌, arith}
use Rattle.std.specs.Ordering.{nat_cmp}
use Rattle.std.specs.FinMap.{is_sorted}
use Rattle.std.specs.FinMap.Entries.{below_all}
use Rattle.std.proofs.lemmas.List.{take_all, take-append-drop, append_assoc}
use lib.Dec.{T}
use Rattle.its_types.proofs.Rising.{first, second, below}
use Rattle.its_maps.specs.Pages.{with_slot, slots_from, paged, EachNumberFits, FollowFrom, AllFrom}
use Rattle.its_maps.specs.declared.page.TheConstants.{PLACES}

with_append : {V : Type 0} (key : ℕ) (x : Option V) (es fs : List (ℕ × V)) → with_slot key x (es ++ fs) ≡ with_slot key x es ++ fs
with_append key None es fs = refl
with_append key (Some v) es fs = refl

none_left : {A : Type 0} (xs : List A) → length xs ≡ 0 → xs ≡ []
none_left [] is = refl
none_left (x ∷ xs) is = absurd (omega (arith, is))

module _ {V : Type 0} where
  pub page_opens : (key : ℕ) (slots : List (Option V)) (d : ℕ × List (Option V)) (pages rest : List (ℕ × List (Option V))) (first : ℕ)
      (opened : List (Option V))
      → length slots ≡ 0 → pages ≡ d ∷ rest → first ≡ d.0 * PLACES → opened ≡ d.1 → length opened ≡ PLACES
      → slots_from key slots ++ paged pages ≡ slots_from first opened ++ paged rest
  page_opens key slots d pages rest first opened none is number same full =
      (λ i. slots_from key (none_left slots none i) ++ paged (is i))
      ∙ ap (λ (xs : List (Option V)). slots_from (d.0 * PLACES) (take PLACES xs) ++ paged rest) (sym same)
      ∙ ap (λ (xs : List (Option V)). slots_from (d.0 * PLACES) xs ++ paged rest) (take_all PLACES opened (omega (arith, full)))
      ∙ ap (λ (k : ℕ). slots_from k opened ++ paged rest) (sym number)

module _ {P : Type 0} where
  pub first_number : (d : ℕ × P) (rest : List (ℕ × P)) → EachNumberFits (d ∷ rest) → d.0 * PLACES < 4294967296
  first_number d rest each = each 0 d (omega arith)

  pub rest_numbers : (d : ℕ × P) (rest : List (ℕ × P)) → EachNumberFits (d ∷ rest) → EachNumberFits rest
  rest_numbers d rest each i e lt = each (suc i) e (omega arith)

  -- ---- pages follow each other

  pub later_follow : (i j : ℕ) (pages : List (ℕ × P)) → FollowFrom i pages → j ≤ i → FollowFrom j pages
  later_follow i j [] f le = tt
  later_follow i j (d ∷ ds) f le = let low = f.0 in (omega arith, f.1)

  follow_above : (x : ℕ) (es : List (ℕ × P)) → T (below_all nat_cmp x es) → T (is_sorted nat_cmp es) → FollowFrom (x * PLACES + PLACES) es
  follow_above x [] low sorted = tt
  follow_above x (e ∷ es) low sorted = let lt = below x e.0 (first _ _ low) in (omega arith, follow_above e.0 es (first _ _ sorted) (second _ _ sorted))

  pub sorted_follow : (es : List (ℕ × P)) → T (is_sorted nat_cmp es) → FollowFrom 0 es
  sorted_follow [] sorted = tt
  sorted_follow (e ∷ es) sorted = (omega arith, follow_above e.0 es (first _ _ sorted) (second _ _ sorted))

module _ {V : Type 0} where
  -- ---- places at the front of a page

  slots_append : (key : ℕ) (xs ys : List (Option V)) → slots_from key (xs ++ ys) ≡ slots_from key xs ++ slots_from (key + length xs) ys
  slots_append key [] ys = let same : key ≡ key + 0 = omega arith in ap (λ (k : ℕ). slots_from k ys) same
  slots_append key (x ∷ xs) ys =
      let next : suc key + length xs ≡ key + length (x ∷ xs) = omega arith in
      ap (with_slot key x) (slots_append (suc key) xs ys ∙ ap (λ (k : ℕ). slots_from (suc key) xs ++ slots_from k ys) next) ∙ with_append key x (slots_from (suc key) xs) _

  -- so many of the places, and then what is left of the walk
  pub places_taken : (key n now : ℕ) (slots front rest : List (Option V)) (pages : List (ℕ × List (Option V))) → front ≡ take n slots → rest ≡ drop n slots → now ≡ key + length front
      → slots_from key slots ++ paged pages ≡ slots_from key front ++ (slots_from now rest ++ paged pages)
  places_taken key n now slots front rest pages front_is rest_is now_is =
      let parts : front ++ rest ≡ slots = ap (λ (xs : List (Option V)). xs ++ rest) front_is ∙ ap (λ (ys : List (Option V)). take n slots ++ ys) rest_is ∙ take-append-drop n slots in
      ap (λ (xs : List (Option V)). slots_from key xs ++ paged pages) (sym parts)
      ∙ ap (λ (es : List (ℕ × V)). es ++ paged pages) (slots_append key front rest ∙ ap (λ (k : ℕ). slots_from key front ++ slots_from k rest) (sym now_is))
      ∙ append_assoc (slots_from key front) (slots_from now rest) (paged pages)

  -- ---- no earlier key

  both_from : (low : ℕ) (xs ys : List (ℕ × V)) → AllFrom low xs → AllFrom low ys → AllFrom low (xs ++ ys)
  both_from low [] ys p q = q
  both_from low (x ∷ xs) ys p q = (p.0, both_from low xs ys p.1 q)

  slots_all_from : (low key : ℕ) (slots : List (Option V)) → low ≤ key → AllFrom low (slots_from key slots)
  slots_all_from low key [] le = tt
  slots_all_from low key (None ∷ xs) le = slots_all_from low (suc key) xs (omega arith)
  slots_all_from low key (Some v ∷ xs) le = (le, slots_all_from low (suc key) xs (omega arith))

  pages_all_from : (low : ℕ) (pages : List (ℕ × List (Option V))) → FollowFrom low pages → AllFrom low (paged pages)
  pages_all_from low [] f = tt
  pages_all_from low (d ∷ ds) f =
      let le = f.0 in
      both_from low (slots_from (d.0 * PLACES) (take PLACES d.1)) (paged ds) (slots_all_from low (d.0 * PLACES) (take PLACES d.1) le)
      (pages_all_from low ds (later_follow (d.0 * PLACES + PLACES) low ds f.1 (omega arith)))

  pub all_from : (key : ℕ) (slots : List (Option V)) (pages : List (ℕ × List (Option V))) → FollowFrom (key + length slots) pages
      → AllFrom key (slots_from key slots ++ paged pages)
  all_from key slots pages f = both_from key (slots_from key slots) (paged pages) (slots_all_from key key slots (omega arith))
      (pages_all_from key pages (later_follow (key + length slots) key pages f (omega arith)))
