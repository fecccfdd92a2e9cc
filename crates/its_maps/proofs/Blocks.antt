-- Entries in blocks, one for each part of the keys: where a key is found in them, and that they rise.
use Rattle.std.proofs.Common.{◌≡◌, ℕ, ◌<◌, Bool, true, false, cond, ◌&&◌, eqb, List, [], ◌∷◌, ◌++◌, Some, None, Option, refl, sym, ap, ◌∙◌, subst, arith}
use Rattle.std.specs.Option.{is_none, option_and_then}
use Rattle.std.specs.List.{flat_map}
use Rattle.std.specs.Ordering.{nat_cmp, is_lt, eq_by_cmp}
use Rattle.std.specs.declared.cmp.Ordering.{Ordering}
use Rattle.std.specs.Cmp.{unsigned_tied}
use Rattle.std.specs.FinMap as finmap
use Rattle.std.specs.FinMap.{FinMap, find, is_sorted, from_sorted, entries_sorted, entries-from_sorted, get-from_sorted, get-entries}
use Rattle.std.specs.FinMap.Entries.{below_all}
use Rattle.std.proofs.lemmas.Bool.{lt-ltb, eqb-true}
use lib.Dec.{T}
use Rattle.its_types.proofs.Rising.{first, second, below}
use Rattle.its_maps.proofs.Places.{find_below}

pub both : (a b : Bool) → T a → T b → T (a && b)
both true b p q = q
both false b p q = p

pub less : (x y : ℕ) → x < y → T (is_lt (nat_cmp x y))
less x y lt = let l = lt-ltb x y lt in rw l tt

pub then_cond : {A B : Type 0} (f : A → Option B) (t : Bool) (a : A) (o : Option A) → option_and_then f (cond t (Some a) o) ≡ cond t (f a) (option_and_then f o)
then_cond f true a o = refl
then_cond f false a o = refl

joined : {V : Type 0} (t : Bool) (o r : Option V) → (t ≡ true → r ≡ None) → cond (is_none (cond t o None)) r (cond t o None) ≡ cond t o r
joined true None r none = none refl
joined true (Some x) r none = refl
joined false o r none = refl

-- each key is of one part
abbrev pub AllIn : {K V : Type 0} → (K → ℕ) → ℕ → List (K × V) → Type 0
AllIn part n [] = Unit {0}
AllIn part n (e ∷ es) = (part e.0 ≡ n) × AllIn part n es

-- a block shows the keys of its part, in order, and the parts follow each other
pub record AreBlocks {K V B : Type 0} (R : K → K → Ordering) (part : K → ℕ) (show : ℕ × B → List (K × V)) (look : K → B → Option V) : Type 0 where
  pub found : (q : K) (d : ℕ × B) → find R q (show d) ≡ cond (eqb (part q) d.0) (look q d.1) None
  pub rises : (d : ℕ × B) → T (is_sorted R (show d))
  pub within : (d : ℕ × B) → AllIn part d.0 (show d)
  pub apart : (x y : K) → part x < part y → T (is_lt (R x y))

module _ {K V B : Type 0} {R : K → K → Ordering} {part : K → ℕ} {show : ℕ × B → List (K × V)} {look : K → B → Option V} (are : AreBlocks R part show look) where
  -- ---- where a key is found

  find_append : (q : K) (xs ys : List (K × V)) → find R q (xs ++ ys) ≡ cond (is_none (find R q xs)) (find R q ys) (find R q xs)
  find_append q [] ys = refl
  find_append q (x ∷ xs) ys =
      elim (eq_by_cmp R q x.0) as (λ t. cond t (Some x.1) (find R q (xs ++ ys)) ≡ cond (is_none (cond t (Some x.1) (find R q xs))) (find R q ys)
      (cond t (Some x.1) (find R q xs))) [
        | true ↦ refl
        | false ↦ find_append q xs ys
      ]

  find_all : (q : K) (es : List (ℕ × B)) → T (is_sorted nat_cmp es) → find R q (flat_map show es) ≡ option_and_then (look q) (find nat_cmp (part q) es)
  find_all q [] t = refl
  find_all q (d ∷ es) t =
      let same = eqb (part q) d.0 in
      let rest = option_and_then (look q) (find nat_cmp (part q) es) in
      let none : same ≡ true → rest ≡ None = λ is. ap (λ (n : ℕ). option_and_then (look q) (find nat_cmp n es)) (eqb-true (part q) d.0 is)
      ∙ ap (option_and_then (look q)) (find_below d.0 es (first _ _ t)) in
      find_append q (show d) (flat_map show es)
      ∙ ap (λ o. cond (is_none o) (find R q (flat_map show es)) o) (are.found q d)
      ∙ ap (λ r. cond (is_none (cond same (look q d.1) None)) r (cond same (look q d.1) None)) (find_all q es (second _ _ t))
      ∙ joined same (look q d.1) rest none
      ∙ sym (ap (λ t. option_and_then (look q) (cond t (Some d.1) (find nat_cmp (part q) es))) (unsigned_tied (part q) d.0) ∙ then_cond (look q) same d.1
      (find nat_cmp (part q) es))

  -- ---- the keys rise

  below_block : (x : K) (n : ℕ) (xs ys : List (K × V)) → part x < n → AllIn part n xs → T (below_all R x ys) → T (below_all R x (xs ++ ys))
  below_block x n [] ys lt in_block later = later
  below_block x n (e ∷ xs) ys lt in_block later = both _ _ (are.apart x e.0 (omega (arith, in_block.0))) (below_block x n xs ys lt in_block.1 later)

  below_later : (x : K) (es : List (ℕ × B)) → T (below_all nat_cmp (part x) es) → T (below_all R x (flat_map show es))
  below_later x [] t = tt
  below_later x (d ∷ es) t = below_block x d.0 (show d) (flat_map show es) (below (part x) d.0 (first _ _ t)) (are.within d) (below_later x es (second _ _ t))

  below_append : (x : K) (xs ys : List (K × V)) → T (below_all R x xs) → T (below_all R x ys) → T (below_all R x (xs ++ ys))
  below_append x [] ys p q = q
  below_append x (e ∷ xs) ys p q = both _ _ (first _ _ p) (below_append x xs ys (second _ _ p) q)

  rise_append : (n : ℕ) (xs : List (K × V)) (es : List (ℕ × B)) → T (is_sorted R xs) → AllIn part n xs → T (below_all nat_cmp n es)
      → T (is_sorted R (flat_map show es)) → T (is_sorted R (xs ++ flat_map show es))
  rise_append n [] es t in_block above later = later
  rise_append n (e ∷ xs) es t in_block above later =
      both _ _ (below_append e.0 xs (flat_map show es) (first _ _ t)
      (below_later e.0 es (subst (λ (k : ℕ). T (below_all nat_cmp k es)) (sym in_block.0) above)))
      (rise_append n xs es (second _ _ t) in_block.1 above later)

  all_rise : (es : List (ℕ × B)) → T (is_sorted nat_cmp es) → T (is_sorted R (flat_map show es))
  all_rise [] t = tt
  all_rise (d ∷ es) t = rise_append d.0 (show d) es (are.rises d) (are.within d) (first _ _ t) (all_rise es (second _ _ t))

  -- ---- so they are a map

  pub entries-blocks : (m : FinMap nat_cmp B) → finmap.entries (from_sorted {R = R} (flat_map show (finmap.entries m))) ≡ flat_map show (finmap.entries m)
  entries-blocks m = entries-from_sorted R _ (all_rise (finmap.entries m) (entries_sorted m))

  pub get-blocks : (m : FinMap nat_cmp B) (q : K) → finmap.get (from_sorted {R = R} (flat_map show (finmap.entries m))) q ≡ option_and_then (look q)
      (finmap.get m (part q))
  get-blocks m q =
      get-from_sorted R _ q (all_rise (finmap.entries m) (entries_sorted m))
      ∙ find_all q (finmap.entries m) (entries_sorted m)
      ∙ ap (option_and_then (look q)) (sym (get-entries m (part q)))
