-- Look-ups in a finite map after a change.
use Rattle.std.proofs.Common.{◌≡◌, Bool, true, false, cond, Option, Some, None, refl, sym, ap, ◌∙◌}
use Rattle.std.specs.declared.cmp.Ordering.{Ordering}
use Rattle.std.specs.declared.cmp.Ordering.TheVariants.{Less, Equal, Greater}
use Rattle.std.specs.Ordering.{eq_by_cmp, is_eq}
use Rattle.std.specs.Cmp.{IsTotalOrder}
use Rattle.std.specs.FinMap.{FinMap, get, insert, retain_keys, get-insert, get-retain_keys, IsAntisymmetric}
use Rattle.std.proofs.lemmas.Bool.{cond-false, cond-true}

tied : (o : Ordering) → is_eq o ≡ true → o ≡ Equal
tied Less e = absurd cc
tied Equal e = refl
tied Greater e = absurd cc

not_tied : (o : Ordering) → (o ≡ Equal → ⊥) → is_eq o ≡ false
not_tied Less h = refl
not_tied Equal h = absurd (h refl)
not_tied Greater h = refl

-- which entry a look-up found
pub data Found {X : Type 0} (same : Type 0) (v x : X) (old : Option X) : Type 0 where
  new : same → v ≡ x → Found same v x old
  kept : old ≡ Some x → Found same v x old

found_by : {X : Type 0} (P : Type 0) (b : Bool) (v x : X) (old : Option X) → (b ≡ true → P) → cond b (Some v) old ≡ Some x → Found P v x old
found_by P true v x old h e = new (h refl) cc
found_by P false v x old h e = kept e

kept_by : {X : Type 0} (b : Bool) (x : X) (old : Option X) → cond b old None ≡ Some x → (b ≡ true) × (old ≡ Some x)
kept_by true x old e = (refl, e)
kept_by false x old e = absurd cc

module _ {K X : Type 0} (R : K → K → Ordering) (total : IsTotalOrder R) (exact : IsAntisymmetric R) where
  -- the new value, or one that was there
  pub inserted : (m : FinMap R X) (k : K) (v : X) (q : K) (x : X) → get (insert m k v) q ≡ Some x → Found (q ≡ k) v x (get m q)
  inserted m k v q x e =
      found_by (q ≡ k) (eq_by_cmp R q k) v x (get m q) (λ same. exact q k (tied (R q k) same)) (sym (get-insert total m k v q) ∙ e)

  -- other keys keep theirs
  pub not_inserted : (m : FinMap R X) (k : K) (v : X) (q : K) → (q ≡ k → ⊥) → get (insert m k v) q ≡ get m q
  not_inserted m k v q apart =
      get-insert total m k v q ∙ cond-false (eq_by_cmp R q k) (Some v) (get m q) (not_tied (R q k) (λ same. apart (exact q k same)))

  -- one of a key that passed the test
  pub retained : (m : FinMap R X) (p : K → Bool) (q : K) (x : X) → get (retain_keys m p) q ≡ Some x → (p q ≡ true) × (get m q ≡ Some x)
  retained m p q x e = kept_by (p q) x (get m q) (sym (get-retain_keys m p q (λ y same. ap p (sym (exact q y same)))) ∙ e)

  -- keys that pass keep theirs
  pub still_there : (m : FinMap R X) (p : K → Bool) (q : K) → p q ≡ true → get (retain_keys m p) q ≡ get m q
  still_there m p q passes = get-retain_keys m p q (λ y same. ap p (sym (exact q y same))) ∙ cond-true (p q) (get m q) None passes
