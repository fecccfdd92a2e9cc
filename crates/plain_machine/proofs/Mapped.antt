-- A loop that changes each element in turn.
use Rattle.std.proofs.Common.{◌≡◌, ℕ, zero, suc, ◌+◌, ◌<◌, List, [], ◌∷◌, ◌++◌, length, map, get_or, set, take, drop, refl, ap, ◌∙◌, arith, add-one}

step : {X : Type 0} (f : X → X) (xs : List X) (i : ℕ) (x y : X) → i < length xs → x ≡ get_or (map f (take i xs) ++ drop i xs) i x → y ≡ f x
    → set (map f (take i xs) ++ drop i xs) i y ≡ map f (take (suc i) xs) ++ drop (suc i) xs
step f [] i x y lt at is = absurd (omega arith)
step f (z ∷ zs) zero x y lt at is = ap (λ v. v ∷ zs) (is ∙ ap f at)
step f (z ∷ zs) (suc i) x y lt at is = ap (λ l. f z ∷ l) (step f zs i x y (omega arith) at is)

-- the first i are changed, and now one more is
pub mapped_more : {X : Type 0} (f : X → X) (xs all : List X) (i : ℕ) (x y : X) → i < length xs → all ≡ map f (take i xs) ++ drop i xs → x ≡ get_or all i x
    → y ≡ f x
    → set all i y ≡ map f (take (i + 1) xs) ++ drop (i + 1) xs
mapped_more f xs all i x y lt same at is = rw (same, add-one i) (step f xs i x y lt (rw same at at) is)

again : {X : Type 0} (xs : List X) (i : ℕ) (d : X) → get_or xs i d ≡ get_or xs i (get_or xs i d)
again [] i d = refl
again (x ∷ xs) zero d = refl
again (x ∷ xs) (suc i) d = again xs i d

pub mapped_at : {X : Type 0} (f : X → X) (xs all : List X) (i : ℕ) (d y : X) → i < length xs → all ≡ map f (take i xs) ++ drop i xs → y ≡ f (get_or all i d)
    → set all i y ≡ map f (take (i + 1) xs) ++ drop (i + 1) xs
mapped_at f xs all i d y lt same is = mapped_more f xs all i (get_or all i d) y lt same (again all i d) is
