-- Views that change: what holds of each, and who sits where.
use Rattle.std.proofs.Common.{◌≡◌, ◌≢◌, ℕ, List, [], ◌∷◌, ◌++◌, length, set, ap, sym, ◌∙◌, subst, inl, inr, ⊎_elim}
use mathlib.Core.Option.{some, some-injective}
use mathlib.Core.Logic.{dite}
use native.Mathlib.Decide.{ℕ_discrete}
use lib.ListN.{get_elem?}
use Rattle.atomic_table.proofs.Lists.{at_set, set_here, set_else, at_longer}
use Rattle.its_plain.specs.declared.call.Entry.{Entry}
use Rattle.its_types.specs.declared.machine.Word.{Word}
use Rattle.its_steps.specs.Good.{Each, Seated, IsNumber, HasRead, IsRoot, IsEnded, AreNumbered}
use Rattle.its_steps.specs.World.{View, RootView}
use Rattle.its_steps.specs.declared.standing.Standing.{Standing}
use Rattle.its_steps.specs.declared.standing.Standing.TheVariants.{Pass, Note}
use Rattle.its_steps.proofs.Lists.{at_below, at_end}

-- no note is a pass
pub no_pass : (v : View) → v.standing ≡ Note → v.standing ≡ Pass → ⊥
no_pass v n p = let e : Note ≡ Pass = sym n ∙ p in cc

-- the view at an index
pub same_view : (views : List View) (i j : ℕ) (v u : View) → get_elem? views i ≡ some v → get_elem? views j ≡ some u → i ≡ j → v ≡ u
same_view views i j v u a b e = some-injective v u (sym a ∙ (ap (get_elem? views) e ∙ b))

module _ (views : List View) (t : Standing) (P Q : ℕ → View → Type 0) (all : Each views t P) where
  -- one is another
  pub each_set : (i : ℕ) (v : View) → (v.standing ≡ t → Q i v) → ((j : ℕ) (u : View) → j ≢ i → get_elem? views j ≡ some u → u.standing ≡ t → P j u → Q j u)
      → Each (set views i v) t Q
  each_set i v own others j u e is = ⊎_elim
      (λ (x : (j ≡ i) × (v ≡ u)). subst (λ (y : ℕ × View). Q y.0 y.1) (λ d. (sym x.0 d, x.1 d)) (own (ap (λ (y : View). y.standing) x.1 ∙ is)))
      (λ (x : (j ≢ i) × (get_elem? views j ≡ some u)). others j u x.0 x.1 is (all j u x.1 is))
      (at_set views i j v u e)

  -- there is one more
  pub each_more : (v : View) → (v.standing ≡ t → Q (length views) v) → ((j : ℕ) (u : View) → P j u → Q j u) → Each (views ++ v ∷ []) t Q
  each_more v own others j u e is = ⊎_elim
      (λ (x : get_elem? views j ≡ some u). others j u (all j u x is))
      (λ (x : (j ≡ length views) × (v ≡ u)). subst (λ (y : ℕ × View). Q y.0 y.1) (λ d. (sym x.0 d, x.1 d)) (own (ap (λ (y : View). y.standing) x.1 ∙ is)))
      (at_end views v u j e)

-- ---- who sits where

module _ (views : List View) (P : View → Type 0) where
  -- a pass has changed what it knows
  pub seated_set : (i : ℕ) (v v' : View) → get_elem? views i ≡ some v → v'.standing ≡ Pass → (P v → P v') → (j : ℕ) → Seated views j P
      → Seated (set views i v') j P
  seated_set i v v' at passes f j s = dite (ℕ_discrete j i)
      (λ here. record {
        view = v';
        at = ap (get_elem? (set views i v')) here ∙ set_here views i v' (at_below views i v at);
        passes = passes;
        is = f (subst P (same_view views j i s.view v s.at at here) s.is);
      })
      (λ other. record { view = s.view; at = set_else views i j v' other ∙ s.at; passes = s.passes; is = s.is })

  -- another view has changed
  pub seated_else : (i : ℕ) (v' : View) (j : ℕ) → j ≢ i → Seated views j P → Seated (set views i v') j P
  seated_else i v' j ne s = record { view = s.view; at = set_else views i j v' ne ∙ s.at; passes = s.passes; is = s.is }

  pub seated_more : (v : View) (j : ℕ) → Seated views j P → Seated (views ++ v ∷ []) j P
  seated_more v j s = record { view = s.view; at = at_longer views (v ∷ []) j s.view s.at; passes = s.passes; is = s.is }

-- the numbers are as they were where everyone sits where they sat
pub numbered_as : (h : List Entry) (word : Word) (views views' : List View) (seat : ℕ → ℕ) (root : RootView)
    → ((P : View → Type 0) (k : ℕ) → Seated views k P → Seated views' k P) → AreNumbered h word views seat root → AreNumbered h word views' seat root
numbered_as h word views views' seat root up n = record {
  bound = n.bound;
  first = up (IsRoot root) (seat 0) n.first;
  each = λ m lt. ⊎_elim (λ (x : Seated views (seat m) (IsNumber m)). inl (up (IsNumber m) (seat m) x)) (λ (x : IsEnded m root.ended). inr x) (n.each m lt);
  distinct = n.distinct;
  whole = n.whole;
  calls = n.calls;
  latest = (n.latest.0, n.latest.1, up (HasRead word) (seat n.latest.0) n.latest.2);
}
