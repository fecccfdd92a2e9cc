-- Sums over the values of a map, and what a change of a key is to them.
use Rattle.std.proofs.Common.{◌≡◌, ℕ, zero, suc, ◌+◌, ◌<◌, ◌≤◌, ◌==◌, Bool, true, false, not, cond, eqb, ◌≢◌, ◌||◌, List, [], ◌∷◌, map, length, get_or}
use Rattle.std.proofs.Common.{Some, None, inl, inr, refl, sym, ap, ◌∙◌, subst, arith}
use Rattle.std.specs.Prelude.{nat_lt}
use Rattle.std.specs.List.{sum_by, list_any, position_or_len}
use Rattle.std.specs.Ordering.{nat_cmp}
use Rattle.std.specs.Cmp.{nat_cmp_total}
use Rattle.std.specs.FinMap as finmap
use Rattle.std.specs.FinMap.{FinMap, find, put, is_sorted, entries_sorted, entries-insert, get-entries, from_sorted, entries-from_sorted, same_entries_map}
use Rattle.std.specs.FinMap.{len-empty, len-entries}
use Rattle.std.specs.FinMap.Entries.{where_key, is_sorted-where_key}
use Rattle.std.proofs.lemmas.Bool.{cases_order, lt-ltb, le-ltb, eq-eqb, ne_eqb}
use Rattle.std.proofs.lemmas.List.Sums.{sum_by-cons, sum_by-le-sum_by}
use lib.Dec.{T}
use Rattle.its_types.proofs.Rising.{first, second, below_each}
use Rattle.its_maps.specs.Counting.{total, of_option, one}
use Rattle.its_maps.specs.MapRoom.{without}
use Rattle.its_maps.proofs.Shown.{from_where}
use Rattle.its_maps.proofs.Places.{find_gap, kept_above}

-- ---- lists

pub any_sum : {X : Type 0} (p : X → Bool) (xs : List X) → list_any p xs ≡ nat_lt 0 (sum_by (λ x. cond (p x) 1 0) xs)
any_sum p [] = refl
any_sum p (x ∷ xs) = at (p x) (any_sum p xs) ∙ ap (nat_lt 0) (sym (sum_by-cons (λ y. cond (p y) 1 0) x xs))
  where
    at : (t : Bool) → list_any p xs ≡ nat_lt 0 (sum_by (λ y. cond (p y) 1 0) xs)
        → (t || list_any p xs) ≡ nat_lt 0 (cond t 1 0 + sum_by (λ y. cond (p y) 1 0) xs)
    at true rest = sym (lt-ltb 0 (1 + sum_by (λ y. cond (p y) 1 0) xs) (omega arith))
    at false rest = rest ∙ ap (nat_lt 0) (omega arith)

pub place_of_some : {X : Type 0} (p : X → Bool) (xs : List X) → 1 ≤ sum_by (λ x. cond (p x) 1 0) xs → position_or_len p xs < length xs
place_of_some p [] some = absurd (omega (arith, some))
place_of_some p (x ∷ xs) some = at (p x) (place_of_some p xs) (subst (λ (n : ℕ). 1 ≤ n) (sum_by-cons (λ y. cond (p y) 1 0) x xs) some)
  where
    at : (t : Bool) → (1 ≤ sum_by (λ y. cond (p y) 1 0) xs → position_or_len p xs < length xs) → 1 ≤ cond t 1 0 + sum_by (λ y. cond (p y) 1 0) xs
        → cond (not t) (1 + position_or_len p xs) 0 < suc (length xs)
    at true rest h = omega arith
    at false rest h = let below = rest (omega (arith, h)) in omega (arith, below)

pub sum_map : {A B : Type 0} (f : B → ℕ) (g : A → B) (xs : List A) → sum_by f (map g xs) ≡ sum_by (λ x. f (g x)) xs
sum_map f g [] = refl
sum_map f g (x ∷ xs) = sum_by-cons f (g x) (map g xs) ∙ ap (λ (n : ℕ). f (g x) + n) (sum_map f g xs) ∙ sym (sum_by-cons (λ y. f (g y)) x xs)

pub sum_ones : {X : Type 0} (xs : List X) → length xs ≡ sum_by one xs
sum_ones [] = refl
sum_ones {X = X} (x ∷ xs) = let rest = sum_ones xs in let first_one = sum_by-cons {X = X} one x xs in omega (arith, rest, first_one)

-- ---- entries whose keys rise

module _ {X : Type 0} (f : X → ℕ) where
  abbrev by_value : ℕ × X → ℕ
  by_value e = f e.1

  sum : List (ℕ × X) → ℕ
  sum = sum_by by_value

  find_lower : (k : ℕ) (e : ℕ × X) (es : List (ℕ × X)) → k < e.0 → T (is_sorted nat_cmp (e ∷ es)) → find nat_cmp k (e ∷ es) ≡ None
  find_lower k e es lt t = find_gap k (e ∷ es) 0 (record {
    in_range = omega arith;
    smaller_before = λ j d less. absurd (omega arith);
    greater_after = λ j d le less. at j d less;
  })
    where
      at : (j : ℕ) (d : ℕ × X) → j < length (e ∷ es) → k < (get_or (e ∷ es) j d).0
      at zero d less = lt
      at (suc j) d less = let above = below_each e.0 es (first _ _ t) j d (omega arith) in omega (arith, lt, above)

  sum_put : (k : ℕ) (v : X) (es : List (ℕ × X)) → T (is_sorted nat_cmp es) → sum (put nat_cmp k v es) + of_option f (find nat_cmp k es) ≡ sum es + f v
  unfolding sum
  sum_put k v [] t = omega arith
  sum_put k v (e ∷ es) t =
      elim (cases_order k e.0) [
        | inl same ↦
            let is : put nat_cmp k v (e ∷ es) ≡ (e.0, v) ∷ es = rw (le-ltb k e.0 (omega (arith, same)), eq-eqb k e.0 same) refl in
            let found : find nat_cmp k (e ∷ es) ≡ Some e.1 = rw (le-ltb k e.0 (omega (arith, same)), eq-eqb k e.0 same) refl in
            omega (arith, ap sum is, ap (of_option f) found, sum_by-cons by_value (e.0, v) es, sum_by-cons by_value e es)
        | inr (inl less) ↦
            let is : put nat_cmp k v (e ∷ es) ≡ (k, v) ∷ e ∷ es = rw (lt-ltb k e.0 less) refl in
            omega (arith, ap sum is, ap (of_option f) (find_lower k e es less t), sum_by-cons by_value (k, v) (e ∷ es))
        | inr (inr more) ↦
            let apart : eqb k e.0 ≡ false = ne_eqb k e.0 (λ s. omega (arith, s, more)) in
            let is : put nat_cmp k v (e ∷ es) ≡ e ∷ put nat_cmp k v es = rw (le-ltb k e.0 (omega (arith, more)), apart) refl in
            let found : find nat_cmp k (e ∷ es) ≡ find nat_cmp k es = rw (le-ltb k e.0 (omega (arith, more)), apart) refl in
            omega (
              arith,
              ap sum is,
              ap (of_option f) found,
              sum_by-cons by_value e (put nat_cmp k v es),
              sum_by-cons by_value e es,
              sum_put k v es
                  (second _ _ t),
            )
      ]

  sum_where : (k : ℕ) (es : List (ℕ × X)) → T (is_sorted nat_cmp es) → sum (where_key nat_cmp (λ q. not (q == k)) es) + of_option f (find nat_cmp k es)
      ≡ sum es
  unfolding sum
  sum_where k [] t = omega arith
  sum_where k (e ∷ es) t =
      elim (cases_order k e.0) [
        | inl same ↦
            let above = kept_above k e.0 es (omega (arith, same)) (below_each e.0 es (first _ _ t)) in
            let is : where_key nat_cmp (λ q. not (q == k)) (e ∷ es) ≡ es = rw (eq-eqb e.0 k (sym same)) above in
            let found : find nat_cmp k (e ∷ es) ≡ Some e.1 = rw (le-ltb k e.0 (omega (arith, same)), eq-eqb k e.0 same) refl in
            omega (arith, ap sum is, ap (of_option f) found, sum_by-cons by_value e es)
        | inr (inl less) ↦ other (λ s. omega (arith, s, less)) (rw (lt-ltb k e.0 less) refl) (sum_where k es (second _ _ t))
        | inr (inr more) ↦ other (λ s. omega (arith, s, more)) (rw (le-ltb k e.0 (omega (arith, more)), ne_eqb k e.0 (λ s. omega (arith, s, more))) refl)
            (sum_where k es (second _ _ t))
      ]
    where
      other : e.0 ≢ k → find nat_cmp k (e ∷ es) ≡ find nat_cmp k es
          → sum (where_key nat_cmp (λ q. not (q == k)) es) + of_option f (find nat_cmp k es) ≡ sum es
          → sum (where_key nat_cmp (λ q. not (q == k)) (e ∷ es)) + of_option f (find nat_cmp k (e ∷ es)) ≡ sum (e ∷ es)
      other apart found rest =
          let is : where_key nat_cmp (λ q. not (q == k)) (e ∷ es) ≡ e ∷ where_key nat_cmp (λ q. not (q == k)) es = rw (ne_eqb e.0 k apart) refl in
          omega (arith, ap sum is, ap (of_option f) found, sum_by-cons by_value e (where_key nat_cmp (λ q. not (q == k)) es), sum_by-cons by_value e es, rest)

-- ---- maps

entries_kept : {X : Type 0} (m : FinMap nat_cmp X) (p : ℕ → Bool) → finmap.entries (finmap.retain_keys m p) ≡ where_key nat_cmp p (finmap.entries m)
entries_kept m p =
    let es = finmap.entries m in
    ap (λ n. finmap.entries (finmap.retain_keys n p)) (same_entries_map m (from_sorted es) (sym (entries-from_sorted nat_cmp es (entries_sorted m))))
    ∙ ap finmap.entries (sym (from_where es p (entries_sorted m)))
    ∙ entries-from_sorted nat_cmp (where_key nat_cmp p es) (is_sorted-where_key nat_cmp p es (entries_sorted m))

no_sum : {X : Type 0} (f : X → ℕ) (xs : List X) → length xs ≡ 0 → sum_by f xs ≡ 0
no_sum f [] none = refl
no_sum f (x ∷ xs) none = absurd (omega (arith, none))

module _ {X : Type 0} (f : X → ℕ) where
  pub total_none : total f finmap.empty ≡ 0
  total_none = no_sum (λ (e : ℕ × X). f e.1) (finmap.entries finmap.empty) (sym (len-entries (finmap.empty {X = X} {R = nat_cmp})) ∙ len-empty nat_cmp X)

  pub total_insert : (m : FinMap nat_cmp X) (k : ℕ) (v : X) → total f (finmap.insert m k v) + of_option f (finmap.get m k) ≡ total f m + f v
  unfolding sum
  total_insert m k v =
      ap (λ (es : List (ℕ × X)). sum_by (λ e. f e.1) es + of_option f (finmap.get m k)) (entries-insert nat_cmp_total m k v)
      ∙ ap (λ o. sum_by (λ e. f e.1) (put nat_cmp k v (finmap.entries m)) + of_option f o) (get-entries m k)
      ∙ sum_put f k v (finmap.entries m) (entries_sorted m)

  pub total_without : (m : FinMap nat_cmp X) (k : ℕ) → total f (without m k) + of_option f (finmap.get m k) ≡ total f m
  unfolding sum
  total_without m k =
      ap (λ (es : List (ℕ × X)). sum_by (λ e. f e.1) es + of_option f (finmap.get m k)) (entries_kept m (λ q. not (q == k)))
      ∙ ap (λ o. sum_by (λ e. f e.1) (where_key nat_cmp (λ q. not (q == k)) (finmap.entries m)) + of_option f o) (get-entries m k)
      ∙ sum_where f k (finmap.entries m) (entries_sorted m)

  pub total_least : (g : X → ℕ) → ((x : X) → f x ≤ g x) → (m : FinMap nat_cmp X) → total f m ≤ total g m
  total_least g le m = sum_by-le-sum_by (λ (e : ℕ × X). f e.1) (λ e. g e.1) (finmap.entries m) (λ e. le e.1)
