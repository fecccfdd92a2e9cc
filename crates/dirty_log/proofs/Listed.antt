-- The numbers of all pages, rising.
use Rattle.std.proofs.Common.{◌≡◌, ◌⊎◌, ℕ, zero, suc, ◌+◌, ◌*◌, ◌^◌, ◌<◌, ◌≤◌, Bool, true, false, cond, eqb, List, [], ◌∷◌, ◌++◌, take, length, get_or}
use Rattle.std.proofs.Common.{refl, sym, ap, subst}
use Rattle.std.proofs.Common.{◌∙◌, inl, inr, arith, eq-eqb, ne_eqb}
use Rattle.std.specs.Prelude.{◌||◌, ◌&&◌, slice_index}
use Rattle.std.specs.List.{list_any}
use Rattle.std.specs.List.Sorted.{IsStrictlyIncreasing}
use Rattle.std.proofs.lemmas.Bool.{or_cases, cases_lt, cases_eq, eqb-true}
use Rattle.std.specs.List.{Contains, dedup}
use Rattle.std.specs.List.Sorted.{IsPermutation, IsSorted}
use Rattle.std.specs.Ordering.{nat_cmp}
use Rattle.std.proofs.lemmas.List.Kept.{Contains-dedup_nat, Contains-from_dedup}
use Rattle.std.proofs.lemmas.List.Sorted.{Contains-permutation, IsPermutation-sym}
use Rattle.std.proofs.lemmas.Map.Keys.{IsStrictlyIncreasing-dedup}
use Rattle.std.specs.List.{list_all}
use Rattle.std.proofs.lemmas.Bool.{and_parts}
use Rattle.its_types.specs.declared.ids.Addr.{Addr}
use Rattle.guest_windows.specs.Windows.{in_range}
use Rattle.guest_windows.specs.Fields.{pairs}
use Rattle.dirty_log.specs.Listing.{is_in}
use Rattle.dirty_log.specs.Pages.{meets, is_there, pages_end, pages_below, pages_of}
use Rattle.dirty_log.proofs.Members.{page_listed, listed_there}

-- ---- rising lists with the same elements

rest_rises : (x : ℕ) (xs : List ℕ) → IsStrictlyIncreasing (x ∷ xs) → IsStrictlyIncreasing xs
rest_rises x xs h k lt = let more : suc k + 1 ≡ suc (k + 1) = omega arith in subst (λ (j : ℕ). slice_index (x ∷ xs) (suc k) < slice_index (x ∷ xs) j) more
    (h (suc k) (omega arith))

above_first : (x : ℕ) (xs : List ℕ) → IsStrictlyIncreasing (x ∷ xs) → (y : ℕ) → is_in y xs ≡ true → x < y
above_first x [] h y is = absurd cc
above_first x (z ∷ zs) h y is =
    let one : 0 + 1 ≡ suc 0 = omega arith in
    let up : x < z = subst (λ (j : ℕ). x < slice_index (x ∷ z ∷ zs) j) one (h 0 (omega arith)) in
    elim (or_cases (eqb z y) (is_in y zs) is) [
      | inl same ↦ let k = eqb-true z y same in omega arith
      | inr later ↦ let k = above_first z zs (rest_rises x (z ∷ zs) h) y later in omega arith
    ]

has_first : (x : ℕ) (xs : List ℕ) → is_in x (x ∷ xs) ≡ true
has_first x xs = ap (λ t. t || is_in x xs) (eq-eqb x x refl)

not_smaller : (x y : ℕ) (xs ys : List ℕ) → IsStrictlyIncreasing (y ∷ ys) → ((z : ℕ) → is_in z (x ∷ xs) ≡ is_in z (y ∷ ys)) → x < y → ⊥
not_smaller x y xs ys h same lt =
    elim (or_cases (eqb y x) (is_in x ys) (sym (same x) ∙ has_first x xs)) [
      | inl e ↦ let k = eqb-true y x e in omega arith
      | inr later ↦ let k = above_first y ys h x later in omega arith
    ]

first_same : (x y : ℕ) (xs ys : List ℕ) → IsStrictlyIncreasing (x ∷ xs) → IsStrictlyIncreasing (y ∷ ys) → ((z : ℕ) → is_in z (x ∷ xs) ≡ is_in z (y ∷ ys))
    → x ≡ y
first_same x y xs ys hx hy same =
    elim (cases_lt x y) [
      | inl lt ↦ absurd (not_smaller x y xs ys hy same lt)
      | inr le ↦ elim (cases_lt y x) [
        | inl lt ↦ absurd (not_smaller y x ys xs hx (λ z. sym (same z)) lt)
        | inr ge ↦ omega arith
      ]
    ]

absent : (x : ℕ) (xs : List ℕ) → IsStrictlyIncreasing (x ∷ xs) → is_in x xs ≡ false
absent x xs h =
    elim (is_in x xs) as (λ t. is_in x xs ≡ t → t ≡ false) [
      | true ↦ λ e. absurd (let k = above_first x xs h x e in omega arith)
      | false ↦ λ e. refl
    ] refl

rest_same : (x : ℕ) (xs ys : List ℕ) → IsStrictlyIncreasing (x ∷ xs) → IsStrictlyIncreasing (x ∷ ys) → ((z : ℕ) → is_in z (x ∷ xs) ≡ is_in z (x ∷ ys)) → (z : ℕ)
    → is_in z xs ≡ is_in z ys
rest_same x xs ys hx hy same z =
    elim (cases_eq x z) [
      | inl e ↦ subst (λ (k : ℕ). is_in k xs ≡ is_in k ys) e (absent x xs hx ∙ sym (absent x ys hy))
      | inr apart ↦ sym (ap (λ t. t || is_in z xs) (ne_eqb x z apart)) ∙ same z ∙ ap (λ t. t || is_in z ys) (ne_eqb x z apart)
    ]

pub same_set : (xs ys : List ℕ) → IsStrictlyIncreasing xs → IsStrictlyIncreasing ys → ((z : ℕ) → is_in z xs ≡ is_in z ys) → xs ≡ ys
same_set [] [] hx hy same = refl
same_set [] (y ∷ ys) hx hy same = absurd (let two : false ≡ true = same y ∙ has_first y ys in cc)
same_set (x ∷ xs) [] hx hy same = absurd (let two : true ≡ false = sym (has_first x xs) ∙ same x in cc)
same_set (x ∷ xs) (y ∷ ys) hx hy same =
    let e = first_same x y xs ys hx hy same in
    let hy2 = subst (λ (k : ℕ). IsStrictlyIncreasing (k ∷ ys)) (sym e) hy in
    let same2 = subst (λ (k : ℕ). (z : ℕ) → is_in z (x ∷ xs) ≡ is_in z (k ∷ ys)) (sym e) same in
    let rest = same_set xs ys (rest_rises x xs hx) (rest_rises x ys hy2) (rest_same x xs ys hx hy2 same2) in
    λ i. e i ∷ rest i

-- ---- the pages of windows rise

-- one more, greater than all
snoc_rises : (xs : List ℕ) (n : ℕ) → IsStrictlyIncreasing xs → ((k : ℕ) → is_in k xs ≡ true → k < n) → IsStrictlyIncreasing (xs ++ n ∷ [])
snoc_rises [] n h above k lt = absurd (omega arith)
snoc_rises (x ∷ []) n h above zero lt = above x (has_first x [])
snoc_rises (x ∷ []) n h above (suc k) lt = absurd (omega arith)
snoc_rises (x ∷ y ∷ ys) n h above zero lt = let one : 0 + 1 ≡ suc 0 = omega arith in subst (λ (j : ℕ). x < slice_index (x ∷ y ∷ ys ++ n ∷ []) j) (sym one)
    (subst (λ (j : ℕ). x < slice_index (x ∷ y ∷ ys) j) one (h 0 (omega arith)))
snoc_rises (x ∷ y ∷ ys) n h above (suc k) lt =
    let more : suc (k + 1) ≡ suc k + 1 = omega arith in
    subst (λ (j : ℕ). slice_index (x ∷ y ∷ ys ++ n ∷ []) (suc k) < slice_index (x ∷ y ∷ ys ++ n ∷ []) j) more
    (snoc_rises (y ∷ ys) n (rest_rises x (y ∷ ys) h) (λ j is. above j (ap (λ (b : Bool). eqb x j || b) is ∙ or_true (eqb x j))) k (omega (arith, lt)))
  where
    or_true : (b : Bool) → (b || true) ≡ true
    or_true true = refl
    or_true false = refl

in_either : (n : ℕ) (xs ys : List ℕ) → is_in n (xs ++ ys) ≡ true → (is_in n xs ≡ true) ⊎ (is_in n ys ≡ true)
in_either n [] ys e = inr e
in_either n (x ∷ xs) ys e =
    elim (or_cases (eqb x n) (is_in n (xs ++ ys)) e) [
      | inl here ↦ inl (ap (λ (b : Bool). b || is_in n xs) here)
      | inr later ↦ elim (in_either n xs ys later) [
        | inl first ↦ inl (ap (λ (b : Bool). eqb x n || b) first ∙ or_t (eqb x n))
        | inr last ↦ inr last
      ]
    ]
  where
    or_t : (b : Bool) → (b || true) ≡ true
    or_t true = refl
    or_t false = refl

below_bound : (windows : List (ℕ × ℕ)) (bound n : ℕ) → is_in n (pages_below windows bound) ≡ true → n < bound
below_bound windows zero n e = absurd cc
below_bound windows (suc k) n e =
    elim (in_either n (pages_below windows k) (cond (is_there windows k) (k ∷ []) []) e) [
      | inl first ↦ let lt = below_bound windows k n first in omega (arith, lt)
      | inr last ↦ let same = one_of (is_there windows k) last in omega (arith, same)
    ]
  where
    one_of : (b : Bool) → is_in n (cond b (k ∷ []) []) ≡ true → k ≡ n
    one_of true h = eqb-true k n (first_or (eqb k n) h)
      where
        first_or : (c : Bool) → (c || false) ≡ true → c ≡ true
        first_or true h = refl
        first_or false h = absurd cc
    one_of false h = absurd cc

nothing_more : (xs : List ℕ) → xs ≡ xs ++ []
nothing_more [] = refl
nothing_more (x ∷ xs) = ap (λ (l : List ℕ). x ∷ l) (nothing_more xs)

rises : (windows : List (ℕ × ℕ)) (n : ℕ) (b : Bool) → IsStrictlyIncreasing (pages_below windows n)
    → IsStrictlyIncreasing (pages_below windows n ++ cond b (n ∷ []) [])
rises windows n true h = snoc_rises (pages_below windows n) n h (below_bound windows n)
rises windows n false h = subst IsStrictlyIncreasing (nothing_more (pages_below windows n)) h

all_rise : (windows : List (ℕ × ℕ)) (bound : ℕ) → IsStrictlyIncreasing (pages_below windows bound)
all_rise windows zero = λ k lt. absurd (omega arith)
all_rise windows (suc n) = rises windows n (is_there windows n) (all_rise windows n)

pub pages_rise : (windows : List (ℕ × ℕ)) → IsStrictlyIncreasing (pages_of windows)
unfolding pages_of
pages_rise windows = all_rise windows (pages_end windows)

-- ---- sorted, and each once

in_contains : (n : ℕ) (xs : List ℕ) → is_in n xs ≡ true → Contains xs n
in_contains n [] e = absurd cc
in_contains n (x ∷ xs) e =
    elim (or_cases (eqb x n) (is_in n xs) e) [
      | inl here ↦ (0, omega arith, eqb-true x n here)
      | inr later ↦ let r = in_contains n xs later in (suc r.0, (let lt = r.1 in omega (arith, lt)), r.2)
    ]

contains_in : (n : ℕ) (xs : List ℕ) → Contains xs n → is_in n xs ≡ true
contains_in n [] (k, lt, e) = absurd (omega (arith, lt))
contains_in n (x ∷ xs) (zero, lt, e) = ap (λ (b : Bool). b || is_in n xs) (eq-eqb x n e)
contains_in n (x ∷ xs) (suc k, lt, e) = ap (λ (b : Bool). eqb x n || b) (contains_in n xs (k, omega (arith, lt), e)) ∙ or_t (eqb x n)
  where
    or_t : (b : Bool) → (b || true) ≡ true
    or_t true = refl
    or_t false = refl

same_bool : (b c : Bool) → (b ≡ true → c ≡ true) → (c ≡ true → b ≡ true) → b ≡ c
same_bool true true f g = refl
same_bool true false f g = sym (f refl)
same_bool false true f g = g refl
same_bool false false f g = refl

pub sorted_once : (windows : List (ℕ × ℕ)) (listed sorted : List ℕ) → ((n : ℕ) → is_in n listed ≡ is_there windows n) → IsPermutation listed sorted
    → IsSorted nat_cmp sorted → dedup eqb sorted ≡ pages_of windows
sorted_once windows listed sorted are same rises =
    same_set (dedup eqb sorted) (pages_of windows) (IsStrictlyIncreasing-dedup sorted rises) (pages_rise windows)
    (λ n. same_bool (is_in n (dedup eqb sorted)) (is_in n (pages_of windows))
    (λ e. page_listed windows n (sym (are n) ∙ contains_in n listed (Contains-permutation sorted listed n (IsPermutation-sym listed sorted same)
    (Contains-from_dedup eqb sorted n (in_contains n (dedup eqb sorted) e)))))
    (λ e. contains_in n (dedup eqb sorted) (Contains-dedup_nat sorted n (Contains-permutation listed sorted n same
    (in_contains n listed (are n ∙ listed_there windows n e))))))

-- ---- one window after another

pub range_at : (ws : List (Addr × ℕ)) (i : ℕ) (d : Addr × ℕ) → list_all in_range (pairs ws) ≡ true → i < length ws
    → in_range ((get_or ws i d).0.0, (get_or ws i d).1) ≡ true
range_at [] i d h lt = absurd (omega arith)
range_at (w ∷ ws) zero d h lt = (and_parts (in_range (w.0.0, w.1)) (list_all in_range (pairs ws)) h).0
range_at (w ∷ ws) (suc i) d h lt = range_at ws i d (and_parts (in_range (w.0.0, w.1)) (list_all in_range (pairs ws)) h).1 (omega arith)

pub there_more : (ws : List (Addr × ℕ)) (i n : ℕ) (d : Addr × ℕ) → i < length ws → (is_there (pairs (take i ws)) n
    || meets (get_or ws i d).0.0 (get_or ws i d).1 n) ≡ is_there (pairs (take (i + 1) ws)) n
there_more [] i n d lt = absurd (omega arith)
there_more (w ∷ ws) zero n d lt = let one : suc 0 ≡ 0 + 1 = omega arith in or_false (meets w.0.0 w.1 n) ∙ ap (λ (j : ℕ). is_there (pairs (take j
    (w ∷ ws))) n) one
  where
    or_false : (b : Bool) → b ≡ (b || false)
    or_false true = refl
    or_false false = refl
there_more (w ∷ ws) (suc i) n d lt =
    let more : suc (i + 1) ≡ suc i + 1 = omega arith in
    or_assoc (meets w.0.0 w.1 n) (is_there (pairs (take i ws)) n) (meets (get_or ws i d).0.0 (get_or ws i d).1 n)
    ∙ ap (λ (b : Bool). meets w.0.0 w.1 n || b) (there_more ws i n d (omega arith))
    ∙ ap (λ (j : ℕ). is_there (pairs (take j (w ∷ ws))) n) more
  where
    or_assoc : (a b c : Bool) → ((a || b) || c) ≡ (a || (b || c))
    or_assoc true b c = refl
    or_assoc false b c = refl

pub low_numbers : (ws : List (Addr × ℕ)) → list_all in_range (pairs ws) ≡ true → (n : ℕ) → is_in n (pages_of (pairs ws)) ≡ true → n < 2 ^ 40
low_numbers ws h n e = there_low ws h n (listed_there (pairs ws) n e)
  where
    there_low : (ws : List (Addr × ℕ)) → list_all in_range (pairs ws) ≡ true → (n : ℕ) → is_there (pairs ws) n ≡ true → n < 2 ^ 40
    there_low [] h n e = absurd cc
    there_low (w ∷ ws) h n e =
        let both = and_parts (in_range (w.0.0, w.1)) (list_all in_range (pairs ws)) h in
        elim (or_cases (meets w.0.0 w.1 n) (is_there (pairs ws) n) e) [
          | inl here ↦ let range = both.0 in low_of w.0.0 w.1 n range here
          | inr later ↦ there_low ws both.1 n later
        ]
      where
        low_of : (base len n : ℕ) → in_range (base, len) ≡ true → meets base len n ≡ true → n < 2 ^ 40
        low_of base len n range met =
            let r = (and_parts (Rattle.std.specs.Prelude.nat_lt 0 len) (Rattle.std.specs.Prelude.nat_le (base + len) (2 ^ 52)) range).1 in
            let m = (and_parts (Rattle.std.specs.Prelude.nat_lt 0 len && Rattle.std.specs.Prelude.nat_le (Rattle.dirty_log.specs.Pages.page_of base) n)
            (Rattle.std.specs.Prelude.nat_lt (4096 * n) (base + len)) met).1 in
            let end : base + len ≤ 2 ^ 52 = grind (arith, r) in
            let low : 4096 * n < base + len = grind (arith, m) in
            omega (arith, end, low)

pub take_all : {A : Type 0} (xs : List A) (i : ℕ) → i ≡ length xs → take i xs ≡ xs
take_all [] zero e = refl
take_all [] (suc i) e = refl
take_all (x ∷ xs) zero e = absurd (omega arith)
take_all {A} (x ∷ xs) (suc i) e = ap (λ (l : List A). x ∷ l) (take_all xs i (omega arith))
