-- What holds of each element of a list.
use Rattle.std.proofs.Common.{◌≡◌, ℕ, zero, suc, ◌+◌, ◌-◌, ◌<◌, ◌≤◌, Bool, true, false, cond, List, [], ◌∷◌, ◌++◌, map, Option, Some, None, refl, ap, sym, ◌∙◌}
use Rattle.std.proofs.Common.{append_assoc, arith}
use Rattle.std.specs.Prelude.{find}
use Rattle.std.proofs.lemmas.Bool.{and_from}
use Rattle.std.specs.List.{AllByRecursion, flat_map, range_with_len, list_all}

pub all_append : {X : Type 0} (P : X → Type 0) (xs ys : List X) → AllByRecursion P xs → AllByRecursion P ys → AllByRecursion P (xs ++ ys)
all_append P [] ys p q = q
all_append P (x ∷ xs) ys p q = (p.0, all_append P xs ys p.1 q)

pub all_weaker : {X : Type 0} (P Q : X → Type 0) → ((x : X) → P x → Q x) → (xs : List X) → AllByRecursion P xs → AllByRecursion Q xs
all_weaker P Q f [] h = tt
all_weaker P Q f (x ∷ xs) h = (f x h.0, all_weaker P Q f xs h.1)

pub all_map : {X Y : Type 0} (P : Y → Type 0) (f : X → Y) (xs : List X) → AllByRecursion (λ x. P (f x)) xs → AllByRecursion P (map f xs)
all_map P f [] h = tt
all_map P f (x ∷ xs) h = (h.0, all_map P f xs h.1)

pub all_flat_map : {X Y : Type 0} (P : Y → Type 0) (f : X → List Y) (xs : List X) → AllByRecursion (λ x. AllByRecursion P (f x)) xs
    → AllByRecursion P (flat_map f xs)
all_flat_map P f [] h = tt
all_flat_map P f (x ∷ xs) h = all_append P (f x) (flat_map f xs) h.0 (all_flat_map P f xs h.1)

not_found : {X : Type 0} (b : Bool) (x : X) (rest : Option X) → b ≡ false → rest ≡ None → cond b (Some x) rest ≡ None
not_found true x rest e none = absurd cc
not_found false x rest e none = none

-- no element passes a test that each fails
pub find_none : {X : Type 0} (p : X → Bool) (xs : List X) → AllByRecursion (λ x. p x ≡ false) xs → find p xs ≡ None
find_none p [] h = refl
find_none p (x ∷ xs) h = not_found (p x) x (find p xs) h.0 (find_none p xs h.1)

-- ---- ranges

range_more : (a b : ℕ) → a < b → range_with_len a (b - a) ≡ a ∷ range_with_len (a + 1) (b - (a + 1))
range_more a b lt = let e : b - a ≡ suc (b - (a + 1)) = omega arith in ap (range_with_len a) e

range_from_1 : (n : ℕ) → range_with_len 1 (n + 1 - 1) ≡ range_with_len 1 n
range_from_1 n = let e : n + 1 - 1 ≡ n = omega arith in ap (range_with_len 1) e

-- a loop over the numbers 1 to n puts some elements for each at the end of a list: it begins
pub pieces_none : {Y : Type 0} (f : ℕ → List Y) (now front all : List Y) (n : ℕ) → now ≡ front → all ≡ front ++ flat_map f (range_with_len 1 n)
    → now ++ flat_map f (range_with_len 1 (n + 1 - 1)) ≡ all
pieces_none f now front all n same whole = ap (λ ns. now ++ flat_map f ns) (range_from_1 n) ∙ ap (λ xs. xs ++ flat_map f (range_with_len 1 n)) same ∙ sym whole

-- and goes on
pub pieces_more : {Y : Type 0} (f : ℕ → List Y) (now before all : List Y) (a b : ℕ) → a < b → now ≡ before ++ f a
    → before ++ flat_map f (range_with_len a (b - a)) ≡ all
    → now ++ flat_map f (range_with_len (a + 1) (b - (a + 1))) ≡ all
pieces_more f now before all a b lt one h =
    let rest = flat_map f (range_with_len (a + 1) (b - (a + 1))) in
    ap (λ xs. xs ++ rest) one ∙ append_assoc before (f a) rest ∙ sym (ap (λ ns. before ++ flat_map f ns) (range_more a b lt)) ∙ h

-- what holds of each number of a range
pub all_range : (P : ℕ → Type 0) (a n : ℕ) → ((k : ℕ) → a ≤ k → k < a + n → P k) → AllByRecursion P (range_with_len a n)
all_range P a zero h = tt
all_range P a (suc n) h = (h a (omega arith) (omega arith), all_range P (a + 1) n (λ k low high. h k (omega arith) (omega arith)))

-- a loop over the numbers 1 to n puts one element for each at the end of a list: it begins
pub items_none : {Y : Type 0} (f : ℕ → Y) (n : ℕ) → map f (range_with_len 1 (n + 1 - 1)) ≡ map f (range_with_len 1 n)
items_none f n = ap (map f) (range_from_1 n)

-- and goes on
pub items_more : {Y : Type 0} (f : ℕ → Y) (now before all : List Y) (x : Y) (a b : ℕ) → a < b → x ≡ f a → now ≡ before ++ x ∷ []
    → before ++ map f (range_with_len a (b - a)) ≡ all
    → now ++ map f (range_with_len (a + 1) (b - (a + 1))) ≡ all
items_more f now before all x a b lt is one h =
    let rest = map f (range_with_len (a + 1) (b - (a + 1))) in
    ap (λ xs. xs ++ rest) (one ∙ ap (λ y. before ++ y ∷ []) is) ∙ append_assoc before (f a ∷ []) rest ∙ sym (ap (λ ns. before ++ map f ns) (range_more a b lt))
    ∙ h

-- ---- tests of each element

pub list_all_true : {X : Type 0} (p : X → Bool) (xs : List X) → AllByRecursion (λ x. p x ≡ true) xs → list_all p xs ≡ true
list_all_true p [] h = refl
list_all_true p (x ∷ xs) h = and_from (p x) (list_all p xs) h.0 (list_all_true p xs h.1)
