-- Entries in the order of their keys: one that stands in the list is found by its key, and the other way round.
use Rattle.std.proofs.Common.{◌≡◌, ℕ, zero, suc, ◌+◌, ◌<◌, ◌≤◌, true, false, cond, eqb, List, [], ◌∷◌, Some, refl, sym, ap, ◌∙◌, arith}
use Rattle.std.specs.Prelude.{slice_get}
use Rattle.std.specs.Ordering.{nat_cmp, eq_by_cmp}
use Rattle.std.specs.Cmp.{unsigned_tied}
use Rattle.std.specs.FinMap as finmap
use Rattle.std.specs.FinMap.Entries.{below_all}
use lib.Dec.{T}
use Rattle.std.proofs.lemmas.Bool.{eqb-true, eq-eqb, ne_eqb}
use Rattle.std.proofs.lemmas.Option.{same_Some}
use Rattle.its_types.proofs.Rising.{first, second, below}

module _ {V : Type 0} where
  pub above : (x : ℕ) (es : List (ℕ × V)) → T (below_all nat_cmp x es) → (i : ℕ) (c : ℕ × V) → slice_get es i ≡ Some c → x < c.0
  above x [] low i c at = absurd cc
  above x (e ∷ es) low zero c at = let lt = below x e.0 (first _ _ low) in let same : e.0 ≡ c.0 = ap (λ (y : ℕ × V). y.0) (same_Some e c at) in omega arith
  above x (e ∷ es) low (suc i) c at = above x es (second _ _ low) i c at

  pub skips : (k : ℕ) (e : ℕ × V) (es : List (ℕ × V)) → (k ≡ e.0 → ⊥) → finmap.find nat_cmp k (e ∷ es) ≡ finmap.find nat_cmp k es
  skips k e es apart = ap (λ b. cond b (Some e.1) (finmap.find nat_cmp k es)) (unsigned_tied k e.0 ∙ ne_eqb k e.0 apart)

  pub finds : (k : ℕ) (e : ℕ × V) (es : List (ℕ × V)) → k ≡ e.0 → finmap.find nat_cmp k (e ∷ es) ≡ Some e.1
  finds k e es is = ap (λ b. cond b (Some e.1) (finmap.find nat_cmp k es)) (unsigned_tied k e.0 ∙ eq-eqb k e.0 is)

  pub listed_found : (es : List (ℕ × V)) → T (finmap.is_sorted nat_cmp es) → (i : ℕ) (c : ℕ × V) → slice_get es i ≡ Some c
      → finmap.find nat_cmp c.0 es ≡ Some c.1
  listed_found [] sorted i c at = absurd cc
  listed_found (e ∷ es) sorted zero c at = let same : e ≡ c = same_Some e c at in finds c.0 e es (ap (λ (y : ℕ × V). y.0) (sym same))
      ∙ ap (λ (y : ℕ × V). Some y.1) same
  listed_found (e ∷ es) sorted (suc i) c at = let lt = above e.0 es (first _ _ sorted) i c at in skips c.0 e es (λ s. omega arith)
      ∙ listed_found es (second _ _ sorted) i c at

  found_by : (k : ℕ) (e : ℕ × V) (es : List (ℕ × V)) (v : V) → ((i : ℕ) × (slice_get es i ≡ Some (k, v)) → (j : ℕ) × (slice_get (e ∷ es) j ≡ Some (k, v)))
      → (finmap.find nat_cmp k es ≡ Some v → (i : ℕ) × (slice_get es i ≡ Some (k, v)))
      → cond (eq_by_cmp nat_cmp k e.0) (Some e.1) (finmap.find nat_cmp k es) ≡ Some v → (j : ℕ) × (slice_get (e ∷ es) j ≡ Some (k, v))
  found_by k e es v more rest h =
      elim (eqb k e.0) as (λ b. eqb k e.0 ≡ b → cond b (Some e.1) (finmap.find nat_cmp k es) ≡ Some v → (j : ℕ) × (slice_get (e ∷ es) j ≡ Some (k, v))) [
        | true ↦ λ is s. let key : k ≡ e.0 = eqb-true k e.0 is in let value : e.1 ≡ v = same_Some e.1 v s in (
          0,
          ap (λ (y : ℕ). Some (y, e.1)) (sym key)
              ∙ ap (λ (w : V). Some (k, w)) value,
        )
        | false ↦ λ is s. more (rest s)
      ] refl (ap (λ b. cond b (Some e.1) (finmap.find nat_cmp k es)) (sym (unsigned_tied k e.0)) ∙ h)

  pub found_listed : (es : List (ℕ × V)) (k : ℕ) (v : V) → finmap.find nat_cmp k es ≡ Some v → (i : ℕ) × (slice_get es i ≡ Some (k, v))
  found_listed [] k v h = absurd cc
  found_listed (e ∷ es) k v h = found_by k e es v (λ p. (suc p.0, p.1)) (found_listed es k v) h

  -- a later key is greater
  pub rising : (es : List (ℕ × V)) → T (finmap.is_sorted nat_cmp es) → (i j : ℕ) (c d : ℕ × V) → i < j → slice_get es i ≡ Some c → slice_get es j ≡ Some d
      → c.0 < d.0
  rising [] sorted i j c d lt at to = absurd cc
  rising (e ∷ es) sorted i zero c d lt at to = absurd (omega arith)
  rising (e ∷ es) sorted zero (suc j) c d lt at to = let up = above e.0 es (first _ _ sorted) j d to in let same : e.0 ≡ c.0 = ap (λ (y : ℕ × V). y.0)
      (same_Some e c at) in omega arith
  rising (e ∷ es) sorted (suc i) (suc j) c d lt at to = rising es (second _ _ sorted) i j c d (omega arith) at to

  from_first : (e : ℕ × V) (es : List (ℕ × V)) → T (finmap.is_sorted nat_cmp (e ∷ es)) → (i : ℕ) (c : ℕ × V) → slice_get (e ∷ es) i ≡ Some c → e.0 + i ≤ c.0
  from_first e es sorted zero c at = let same : e.0 ≡ c.0 = ap (λ (y : ℕ × V). y.0) (same_Some e c at) in omega arith
  from_first e [] sorted (suc i) c at = absurd cc
  from_first e (f ∷ es) sorted (suc i) c at =
      let up = above e.0 (f ∷ es) (first _ _ sorted) 0 f refl in
      let more = from_first f es (second _ _ sorted) i c at in omega arith

  -- no place is greater than the key that stands there
  pub place_low : (es : List (ℕ × V)) → T (finmap.is_sorted nat_cmp es) → (i : ℕ) (c : ℕ × V) → slice_get es i ≡ Some c → i ≤ c.0
  place_low [] sorted i c at = absurd cc
  place_low (e ∷ es) sorted i c at = let up = from_first e es sorted i c at in omega arith

  -- before a place that is taken all are
  pub taken_before : (es : List (ℕ × V)) (i j : ℕ) (d : ℕ × V) → i < j → slice_get es j ≡ Some d → (c : ℕ × V) × (slice_get es i ≡ Some c)
  taken_before [] i j d lt at = absurd cc
  taken_before (e ∷ es) i zero d lt at = absurd (omega arith)
  taken_before (e ∷ es) zero (suc j) d lt at = (e, refl)
  taken_before (e ∷ es) (suc i) (suc j) d lt at = taken_before es i j d (omega arith) at
