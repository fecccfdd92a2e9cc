-- Pages of places as one map: where a key is found.
use Rattle.std.proofs.Common.{◌≡◌, ℕ, zero, suc, ◌+◌, ◌*◌, ◌/◌, ◌%◌, ◌<◌, ◌≤◌, ◌≢◌, Bool, true, false, cond, ◌&&◌, eqb, List, [], ◌∷◌, length, take, get_or}
use Rattle.std.proofs.Common.{Some, None, Option, is_some, inl, inr, refl, ap, ◌∙◌, sym, arith}
use Rattle.std.specs.Option.{option_and_then}
use Rattle.std.specs.Ordering.{nat_cmp}
use Rattle.std.specs.Cmp.{unsigned_tied}
use Rattle.std.specs.FinMap as finmap
use Rattle.std.specs.FinMap.{FinMap, find, is_sorted}
use Rattle.std.specs.FinMap.Entries.{below_all}
use Rattle.std.proofs.lemmas.Bool.{cases_lt, eqb-true, eq-eqb, ne_eqb}
use mathlib.Core.Bool.{false≢true}
use Rattle.std.proofs.lemmas.List.{get_or-take, length-take}
use lib.Dec.{T}
use Rattle.its_maps.specs.Pages.{with_slot, slots_from, paged, paged_map}
use Rattle.its_maps.specs.declared.page.TheConstants.{PLACES}
use Rattle.its_maps.proofs.Blocks.{AllIn, AreBlocks, entries-blocks, get-blocks, both, less}

-- the page of a key
abbrev pub page_of : ℕ → ℕ
page_of key = key / PLACES

module _ {V : Type 0} where
  -- what a key's page has at the key's place
  abbrev pub slot : ℕ → List (Option V) → Option V
  slot q page = get_or page (q % PLACES) None

  find_with : (q k : ℕ) (x : Option V) (rest : List (ℕ × V)) → find nat_cmp q (with_slot k x rest) ≡ cond (is_some x && eqb q k) x (find nat_cmp q rest)
  find_with q k None rest = refl
  find_with q k (Some v) rest = ap (λ t. cond t (Some v) (find nat_cmp q rest)) (unsigned_tied q k)

  skip : (q k : ℕ) (x : Option V) (r : Option V) → q ≢ k → cond (is_some x && eqb q k) x r ≡ r
  skip q k None r ne = refl
  skip q k (Some v) r ne = ap (λ t. cond t (Some v) r) (ne_eqb q k ne)

  find_less : (q k : ℕ) (xs : List (Option V)) → q < k → find nat_cmp q (slots_from k xs) ≡ None
  find_less q k [] lt = refl
  find_less q k (x ∷ xs) lt = find_with q k x (slots_from (suc k) xs) ∙ skip q k x _ (λ s. omega arith) ∙ find_less q (suc k) xs (omega arith)

  here : (k : ℕ) (x : Option V) → cond (is_some x && eqb k k) x None ≡ x
  here k None = refl
  here k (Some v) = ap (λ t. cond t (Some v) None) (eq-eqb k k refl)

  find_nth : (i k : ℕ) (xs : List (Option V)) → find nat_cmp (k + i) (slots_from k xs) ≡ get_or xs i None
  find_nth i k [] = refl
  find_nth zero k (x ∷ xs) =
      let same : k + 0 ≡ k = omega arith in
      ap (λ n. find nat_cmp n (slots_from k (x ∷ xs))) same ∙ find_with k k x (slots_from (suc k) xs)
      ∙ ap (cond (is_some x && eqb k k) x) (find_less k (suc k) xs (omega arith)) ∙ here k x
  find_nth (suc i) k (x ∷ xs) =
      let next : k + suc i ≡ suc k + i = omega arith in
      find_with (k + suc i) k x (slots_from (suc k) xs) ∙ skip (k + suc i) k x _ (λ s. omega arith)
      ∙ ap (λ n. find nat_cmp n (slots_from (suc k) xs)) next ∙ find_nth i (suc k) xs

  find_past : (q k : ℕ) (xs : List (Option V)) → k + length xs ≤ q → find nat_cmp q (slots_from k xs) ≡ None
  find_past q k [] le = refl
  find_past q k (x ∷ xs) le = find_with q k x (slots_from (suc k) xs) ∙ skip q k x _ (λ s. omega arith) ∙ find_past q (suc k) xs (omega arith)

  short : (xs : List (Option V)) → length (take PLACES xs) ≤ PLACES
  short xs = omega (arith, length-take PLACES xs)

  find_page : (q n : ℕ) (xs : List (Option V)) → find nat_cmp q (slots_from (n * PLACES) (take PLACES xs)) ≡ cond (eqb (page_of q) n) (slot q xs) None
  find_page q n xs = at (eqb (page_of q) n) refl
    where
      outside : (page_of q ≡ n → ⊥) → find nat_cmp q (slots_from (n * PLACES) (take PLACES xs)) ≡ None
      outside ne =
          elim (cases_lt q (n * PLACES)) [
            | inl lt ↦ find_less q (n * PLACES) (take PLACES xs) lt
            | inr ge ↦ elim (cases_lt q (n * PLACES + PLACES)) [
              | inl lt ↦ absurd (ne (omega arith))
              | inr past ↦ find_past q (n * PLACES) (take PLACES xs) (omega (arith, short xs))
            ]
          ]

      at : (t : Bool) → eqb (page_of q) n ≡ t → find nat_cmp q (slots_from (n * PLACES) (take PLACES xs)) ≡ cond t (slot q xs) None
      at true is =
          let same = eqb-true (page_of q) n is in
          let whole : q ≡ n * PLACES + q % PLACES = omega (arith, same) in
          ap (λ (k : ℕ). find nat_cmp k (slots_from (n * PLACES) (take PLACES xs))) whole ∙ find_nth (q % PLACES) (n * PLACES) (take PLACES xs)
          ∙ get_or-take PLACES xs (q % PLACES) None (omega arith)
      at false is = outside (λ same. absurd (false≢true (sym is ∙ eq-eqb (page_of q) n same)))

  -- ---- the keys of a page rise, and are the page's

  below_slots : (x k : ℕ) (xs : List (Option V)) → x < k → T (below_all nat_cmp x (slots_from k xs))
  below_slots x k [] lt = tt
  below_slots x k (None ∷ xs) lt = below_slots x (suc k) xs (omega arith)
  below_slots x k (Some v ∷ xs) lt = both _ _ (less x k lt) (below_slots x (suc k) xs (omega arith))

  slots_rise : (k : ℕ) (xs : List (Option V)) → T (is_sorted nat_cmp (slots_from k xs))
  slots_rise k [] = tt
  slots_rise k (None ∷ xs) = slots_rise (suc k) xs
  slots_rise k (Some v ∷ xs) = both _ _ (below_slots k (suc k) xs (omega arith)) (slots_rise (suc k) xs)

  within : (n k : ℕ) (xs : List (Option V)) → n * PLACES ≤ k → k + length xs ≤ n * PLACES + PLACES → AllIn page_of n (slots_from k xs)
  within n k [] low high = tt
  within n k (None ∷ xs) low high = within n (suc k) xs (omega arith) (omega arith)
  within n k (Some v ∷ xs) low high = (omega arith, within n (suc k) xs (omega arith) (omega arith))

  are_blocks : AreBlocks nat_cmp page_of (λ (d : ℕ × List (Option V)). slots_from (d.0 * PLACES) (take PLACES d.1)) slot
  are_blocks = record {
    found = λ q d. find_page q d.0 d.1;
    rises = λ d. slots_rise (d.0 * PLACES) (take PLACES d.1);
    within = λ d. within d.0 (d.0 * PLACES) (take PLACES d.1) (omega arith) (omega (arith, short d.1));
    apart = λ x y lt. less x y (omega arith);
  }

  pub entries-paged : (m : FinMap nat_cmp (List (Option V))) → finmap.entries (paged_map m) ≡ paged (finmap.entries m)
  entries-paged m = entries-blocks are_blocks m

  pub get-paged : (m : FinMap nat_cmp (List (Option V))) (q : ℕ) → finmap.get (paged_map m) q ≡ option_and_then (slot q) (finmap.get m (page_of q))
  get-paged m q = get-blocks are_blocks m q
