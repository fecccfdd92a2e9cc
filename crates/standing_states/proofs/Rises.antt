-- Entries by rising number: what is found among them.
use Rattle.std.proofs.Common.{◌≡◌, ℕ, ◌+◌, ◌<◌, ◌≤◌, cond, List, [], ◌∷◌, Some, None, refl, ap, ◌∙◌, eq-eqb, arith}
use Rattle.std.specs.Ordering.{nat_cmp}
use Rattle.std.specs.Cmp.{unsigned_tied}
use Rattle.std.specs.FinMap as finmap
use Rattle.std.specs.FinMap.{FinMap}
use Rattle.std.specs.FinMap.Entries.{below_all}
use lib.Dec.{T}
use Rattle.its_types.proofs.Rising.{first, second, below}
use Rattle.std.proofs.lemmas.Bool.{ne_eqb}
use Rattle.standing_states.specs.Rises.{RisesFrom}

module _ {X : Type 0} where
  pub find_skips : (k : ℕ) (e : ℕ × X) (es : List (ℕ × X)) → (k ≡ e.0 → ⊥) → finmap.find nat_cmp k (e ∷ es) ≡ finmap.find nat_cmp k es
  find_skips k e es apart = ap (λ b. cond b (Some e.1) (finmap.find nat_cmp k es)) (unsigned_tied k e.0 ∙ ne_eqb k e.0 apart)

  pub find_here : (k : ℕ) (e : ℕ × X) (es : List (ℕ × X)) → k ≡ e.0 → finmap.find nat_cmp k (e ∷ es) ≡ Some e.1
  find_here k e es is = ap (λ b. cond b (Some e.1) (finmap.find nat_cmp k es)) (unsigned_tied k e.0 ∙ eq-eqb k e.0 is)

  pub rises_none : (k i : ℕ) (es : List (ℕ × X)) → RisesFrom i es → k < i → finmap.find nat_cmp k es ≡ None
  rises_none k i [] r lt = refl
  rises_none k i (e ∷ es) r lt = let low = r.0 in find_skips k e es (λ s. omega arith) ∙ rises_none k (e.0 + 1) es r.1 (omega arith)

  pub later_rises : (i j : ℕ) (es : List (ℕ × X)) → RisesFrom i es → j ≤ i → RisesFrom j es
  later_rises i j [] r le = tt
  later_rises i j (e ∷ es) r le = let low = r.0 in (omega arith, r.1)

-- ---- the entries of a map rise

module _ {X : Type 0} where
  rises_above : (x : ℕ) (es : List (ℕ × X)) → T (below_all nat_cmp x es) → T (finmap.is_sorted nat_cmp es) → RisesFrom (x + 1) es
  rises_above x [] low sorted = tt
  rises_above x (e ∷ es) low sorted = let lt = below x e.0 (first _ _ low) in (omega arith, rises_above e.0 es (first _ _ sorted) (second _ _ sorted))

  pub sorted_rises : (es : List (ℕ × X)) → T (finmap.is_sorted nat_cmp es) → RisesFrom 0 es
  sorted_rises [] sorted = tt
  sorted_rises (e ∷ es) sorted = (omega arith, rises_above e.0 es (first _ _ sorted) (second _ _ sorted))

  pub map_rises : (m : FinMap nat_cmp X) → RisesFrom 0 (finmap.entries m)
  map_rises m = sorted_rises (finmap.entries m) (finmap.entries_sorted m)
