-- Positions in lists, and the lists around them.
use Rattle.std.proofs.Common.{◌≡◌, ℕ, zero, suc, ◌<◌, ◌≤◌, Bool, true, false, cond, nat_lt, List, [], ◌∷◌, ◌++◌, length, get_or, set, take, drop, Some, None}
use Rattle.std.proofs.Common.{refl, ap, sym, ◌∙◌, arith}
use Rattle.std.specs.List.{position, position_or_len}
use borrow.Author.Tests.{ltb-false}
use Rattle.std.proofs.lemmas.List.Sums.{fails_before_first}

-- where nothing is found no element passes
late : (a b : ℕ) (t : Bool) → nat_lt a b ≡ t → cond t (Some a) None ≡ None → b ≤ a
late a b true e f = absurd cc
late a b false e f = ltb-false a b e

pub none_passes : {X : Type 0} (p : X → Bool) (xs : List X) → position p xs ≡ None → (k : ℕ) (d : X) → k < length xs → p (get_or xs k d) ≡ false
none_passes p xs e k d lt =
    let le : length xs ≤ position_or_len p xs = late (position_or_len p xs) (length xs) (nat_lt (position_or_len p xs) (length xs)) refl e in
    fails_before_first p xs k d (omega (arith, le, lt))

-- ---- the lists before and behind an element

pub around : {X : Type 0} (xs : List X) (k : ℕ) (y : X) → k < length xs → y ≡ get_or xs k y → xs ≡ take k xs ++ y ∷ drop (suc k) xs
around [] k y lt e = absurd (omega arith)
around (x ∷ xs) zero y lt e = λ d. sym e d ∷ xs
around (x ∷ xs) (suc k) y lt e = λ d. x ∷ around xs k y (omega arith) e d

pub set_around : {X : Type 0} (xs : List X) (k : ℕ) (y : X) → k < length xs → set xs k y ≡ take k xs ++ y ∷ drop (suc k) xs
set_around [] k y lt = absurd (omega arith)
set_around (x ∷ xs) zero y lt = refl
set_around (x ∷ xs) (suc k) y lt = λ d. x ∷ set_around xs k y (omega arith) d

pub middle_at : {X : Type 0} (before : List X) (x : X) (behind : List X) (d : X) → get_or (before ++ x ∷ behind) (length before) d ≡ x
middle_at [] x behind d = refl
middle_at (y ∷ before) x behind d = middle_at before x behind d

pub middle_below : {X : Type 0} (before : List X) (x : X) (behind : List X) → length before < length (before ++ x ∷ behind)
middle_below [] x behind = omega arith
middle_below (y ∷ before) x behind = let r = middle_below before x behind in omega (arith, r)

pub none_between : {X : Type 0} (p : X → Bool) (xs before : List X) (x : X) (behind : List X) → position p xs ≡ None → xs ≡ before ++ x ∷ behind → p x ≡ true
    → ⊥
none_between p xs before x behind e is passes =
    let none : position p (before ++ x ∷ behind) ≡ None = ap (position p) (sym is) ∙ e in
    let fails : p (get_or (before ++ x ∷ behind) (length before) x) ≡ false = none_passes p (before ++ x ∷ behind) none (length before) x
    (middle_below before x behind) in
    let two : true ≡ false = sym passes ∙ (ap p (sym (middle_at before x behind x)) ∙ fails) in
    cc

-- an element is the same whatever would be read past the end
pub any_default : {X : Type 0} (xs : List X) (k : ℕ) (a b : X) → k < length xs → get_or xs k a ≡ get_or xs k b
any_default [] k a b lt = absurd (omega arith)
any_default (x ∷ xs) zero a b lt = refl
any_default (x ∷ xs) (suc k) a b lt = any_default xs k a b (omega arith)

-- an element that is read twice
pub same_read : {X : Type 0} (xs : List X) (k : ℕ) (a b : X) → k < length xs → a ≡ get_or xs k a → b ≡ get_or xs k b → a ≡ b
same_read xs k a b lt e f = e ∙ (any_default xs k a b lt ∙ sym f)

pub no_items : {X : Type 0} (xs : List X) → length xs ≡ 0 → xs ≡ []
no_items [] e = refl
no_items (x ∷ xs) e = absurd (omega arith)
