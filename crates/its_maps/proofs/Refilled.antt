-- A map that is filled with the entries of another.
use Rattle.std.proofs.Common.{◌≡◌, ℕ, Bool, true, false, cond, List, [], ◌∷◌, Some, None, Option, is_some, refl, sym, ap, ◌∙◌}
use Rattle.std.specs.Ordering.{nat_cmp, eq_by_cmp}
use Rattle.std.specs.Cmp.{nat_cmp_total}
use Rattle.std.specs.FinMap as finmap
use Rattle.std.specs.FinMap.{FinMap, find, is_sorted, entries_sorted, get-entries, get-insert, get-empty, same_map, nat_cmp-IsAntisymmetric}
use lib.Dec.{T}
use Rattle.its_types.proofs.Rising.{first, second}
use Rattle.its_maps.proofs.Places.{find_below}
use Rattle.its_maps.proofs.Values.{same_number}

module _ {V : Type 0} where
  abbrev pub filled : FinMap nat_cmp V → List (ℕ × V) → FinMap nat_cmp V
  filled m [] = m
  filled m (e ∷ es) = filled (finmap.insert m e.0 e.1) es

  get-filled : (q : ℕ) (es : List (ℕ × V)) (m : FinMap nat_cmp V) → T (is_sorted nat_cmp es) → finmap.get (filled m es) q ≡ cond (is_some (find nat_cmp q es))
      (find nat_cmp q es) (finmap.get m q)
  get-filled q [] m t = refl
  get-filled q (e ∷ es) m t =
      get-filled q es (finmap.insert m e.0 e.1) (second _ _ t)
      ∙ ap (λ r. cond (is_some (find nat_cmp q es)) (find nat_cmp q es) r) (get-insert nat_cmp_total m e.0 e.1 q)
      ∙ at (eq_by_cmp nat_cmp q e.0) refl
    where
      at : (t : Bool) → eq_by_cmp nat_cmp q e.0 ≡ t → cond (is_some (find nat_cmp q es)) (find nat_cmp q es) (cond t (Some e.1) (finmap.get m q)) ≡ cond
          (is_some (cond t (Some e.1) (find nat_cmp q es))) (cond t (Some e.1) (find nat_cmp q es)) (finmap.get m q)
      at true tie =
          let none : find nat_cmp q es ≡ None = ap (λ (n : ℕ). find nat_cmp n es) (same_number q e.0 tie) ∙ find_below e.0 es (first _ _ t) in
          ap (λ o. cond (is_some o) o (Some e.1)) none
      at false tie = refl

  pub filled_again : (m : FinMap nat_cmp V) → filled finmap.empty (finmap.entries m) ≡ m
  filled_again m =
      same_map nat_cmp_total nat_cmp-IsAntisymmetric _ _ (λ q.
      get-filled q (finmap.entries m) finmap.empty (entries_sorted m)
      ∙ or_none (find nat_cmp q (finmap.entries m)) (finmap.get finmap.empty q) (get-empty nat_cmp q)
      ∙ sym (get-entries m q))
    where
      or_none : (o unset : Option V) → unset ≡ None → cond (is_some o) o unset ≡ o
      or_none None none is = is
      or_none (Some v) unset is = refl
