-- Lists by their items.
use Rattle.std.proofs.Common.{◌≡◌, ℕ, zero, suc, List, [], ◌∷◌, length, Some, get_or, ap, sym, arith}
use Rattle.std.specs.Prelude.{slice_get}
use Rattle.std.proofs.lemmas.Option.{same_Some}

pub same_lists : {X : Type 0} (xs ys : List X) → length xs ≡ length ys → ((i : ℕ) (x : X) → slice_get xs i ≡ Some x → slice_get ys i ≡ Some x) → xs ≡ ys
same_lists [] [] e h = λ d. []
same_lists [] (y ∷ ys) e h = absurd cc
same_lists (x ∷ xs) [] e h = absurd cc
same_lists {X} (x ∷ xs) (y ∷ ys) e h =
    let first : y ≡ x = same_Some y x (h 0 x (λ d. Some x)) in
    let rest : xs ≡ ys = same_lists xs ys (omega (arith, e)) (λ i z is. h (suc i) z is) in
    λ d. sym first d ∷ rest d

pub one_is : {X : Type 0} (xs : List X) (x : X) → length xs ≡ 1 → slice_get xs 0 ≡ Some x → x ∷ [] ≡ xs
one_is [] x e is = absurd cc
one_is {X} (y ∷ []) x e is = ap (λ (z : X). z ∷ []) (sym (same_Some y x is))
one_is (y ∷ z ∷ zs) x e is = absurd (omega (arith, e))

pub two_are : {X : Type 0} (xs : List X) (x y : X) → length xs ≡ 2 → slice_get xs 0 ≡ Some x → slice_get xs 1 ≡ Some y → x ∷ y ∷ [] ≡ xs
two_are [] x y e is then = absurd cc
two_are (a ∷ []) x y e is then = absurd (omega (arith, e))
two_are (a ∷ b ∷ []) x y e is then =
    let first = same_Some a x is in
    let second = same_Some b y then in
    λ d. sym first d ∷ sym second d ∷ []
two_are (a ∷ b ∷ c ∷ cs) x y e is then = absurd (omega (arith, e))

pub got_at : {X : Type 0} (xs : List X) (v : ℕ) (d x : X) → slice_get xs v ≡ Some x → get_or xs v d ≡ x
got_at [] v d x is = absurd cc
got_at (y ∷ ys) zero d x is = same_Some y x is
got_at (y ∷ ys) (suc v) d x is = got_at ys v d x is
