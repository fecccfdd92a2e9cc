-- What is left of a list, and what was taken of it.
use Rattle.std.proofs.Common.{◌≡◌, ◌≢◌, ℕ, zero, suc, ◌≤◌, eqb, cond, List, [], ◌∷◌, ◌++◌, length, map, take, drop, replicate, Option, Some, None}
use Rattle.std.proofs.Common.{refl, sym, ap, ◌∙◌, arith, eq-eqb, ne_eqb}
use Rattle.std.specs.Prelude.{slice_get, slice_index, option_map}

pub head_is : {A : Type 0} {x y : A} {xs ys : List A} → x ∷ xs ≡ y ∷ ys → x ≡ y
head_is e = cc e

pub tail_is : {A : Type 0} {x y : A} {xs ys : List A} → x ∷ xs ≡ y ∷ ys → xs ≡ ys
tail_is e = cc e

pub some_is : {A : Type 0} {x y : A} → Some x ≡ Some y → x ≡ y
some_is e = cc e

-- ---- what is left

pub left_head : {A : Type 0} (xs : List A) (n : ℕ) (x : A) (rest : List A) → x ∷ rest ≡ drop n xs → slice_get xs n ≡ Some x
left_head [] zero x rest e = absurd (cc e)
left_head [] (suc n) x rest e = absurd (cc e)
left_head (y ∷ xs) zero x rest e = ap Some (sym (head_is e))
left_head (y ∷ xs) (suc n) x rest e = left_head xs n x rest e

pub left_tail : {A : Type 0} (xs : List A) (n : ℕ) (x : A) (rest : List A) → x ∷ rest ≡ drop n xs → rest ≡ drop (suc n) xs
left_tail [] zero x rest e = absurd (cc e)
left_tail [] (suc n) x rest e = absurd (cc e)
left_tail (y ∷ xs) zero x rest e = tail_is e
left_tail (y ∷ xs) (suc n) x rest e = left_tail xs n x rest e

pub left_none : {A : Type 0} (xs : List A) (n : ℕ) → [] ≡ drop n xs → slice_get xs n ≡ None
left_none [] n e = refl
left_none (y ∷ xs) zero e = absurd (cc e)
left_none (y ∷ xs) (suc n) e = left_none xs n e

pub left_some : {A : Type 0} (xs : List A) (n : ℕ) (x : A) → slice_get xs n ≡ Some x → drop n xs ≡ x ∷ drop (suc n) xs
left_some [] n x e = absurd (cc e)
left_some (y ∷ xs) zero x e = let same : y ≡ x = some_is e in ap (λ z. z ∷ xs) same
left_some (y ∷ xs) (suc n) x e = left_some xs n x e

pub drop_none : {A : Type 0} (xs : List A) → drop 0 xs ≡ xs
drop_none [] = refl
drop_none (x ∷ xs) = refl

-- ---- what was taken

pub taken_more : {A : Type 0} (xs : List A) (n : ℕ) (x : A) → slice_get xs n ≡ Some x → take (suc n) xs ≡ take n xs ++ x ∷ []
taken_more [] n x e = absurd (cc e)
taken_more (y ∷ xs) zero x e = let same : y ≡ x = some_is e in ap (λ z. z ∷ []) same
taken_more (y ∷ xs) (suc n) x e = ap (λ z. y ∷ z) (taken_more xs n x e)

pub taken_all : {A : Type 0} (xs : List A) (n : ℕ) → length xs ≤ n → take n xs ≡ xs
taken_all [] zero le = refl
taken_all [] (suc n) le = refl
taken_all (x ∷ xs) zero le = absurd (omega (arith, le))
taken_all (x ∷ xs) (suc n) le = ap (λ z. x ∷ z) (taken_all xs n (omega (arith, le)))

pub taken_none : {A : Type 0} (xs : List A) → take 0 xs ≡ []
taken_none [] = refl
taken_none (x ∷ xs) = refl

pub taken_of_none : {A : Type 0} (n : ℕ) → (let none : List A = [] in take n none ≡ none)
taken_of_none zero = refl
taken_of_none (suc n) = refl

-- ---- reads

pub get_map : {A B : Type 0} (f : A → B) (xs : List A) (n : ℕ) → slice_get (map f xs) n ≡ option_map f (slice_get xs n)
get_map f [] n = refl
get_map f (x ∷ xs) zero = refl
get_map f (x ∷ xs) (suc n) = get_map f xs n

pub zeros_at : (n i : ℕ) → slice_index (replicate n 0) i ≡ (let z : ℕ = 0 in z)
zeros_at zero i = refl
zeros_at (suc n) zero = refl
zeros_at (suc n) (suc i) = zeros_at n i

pub none_some : {A X : Type 0} (x : A) (o : Option A) → o ≡ None → o ≡ Some x → X
none_some {A = A} x o n s = let clash : (let p : Option A = None in p) ≡ Some x = sym n ∙ s in absurd (cc clash)

-- ---- tests

pub if_same : {X : Type 0} (a b : ℕ) (x y : X) → a ≡ b → cond (eqb a b) x y ≡ x
if_same a b x y e = ap (λ t. cond t x y) (eq-eqb a b e)

pub if_other : {X : Type 0} (a b : ℕ) (x y : X) → a ≢ b → cond (eqb a b) x y ≡ y
if_other a b x y ne = ap (λ t. cond t x y) (ne_eqb a b ne)
