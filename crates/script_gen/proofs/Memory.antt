-- Memory of one window, and memory of zeros.
use Rattle.std.proofs.Common.{◌≡◌, ℕ, zero, suc, ◌+◌, ◌-◌, ◌≤◌, Bool, true, false, ◌||◌, List, [], ◌∷◌, length, take, drop, map, replicate, Some, refl, ap}
use Rattle.std.proofs.Common.{subst, ◌∙◌, arith}
use Rattle.std.specs.Prelude.{nat_le}
use Rattle.std.specs.List.{AllByRecursion}
use Rattle.std.proofs.lemmas.Bool.{and_from, le-leb, cond_both}
use Rattle.std.proofs.lemmas.Option.{same_Some}
use Rattle.guest_windows.specs.Windows.{Window, has, inside, piece, read_at, extent, zeros}
use Rattle.guest_windows.proofs.Laws.{length-read_at}

-- what lies between the ends of the only window lies inside
pub inside_one : (ws : List Window) (base size a n : ℕ) → map extent ws ≡ (base, size) ∷ [] → base ≤ a → a + n ≤ base + size → inside ws a n ≡ true
inside_one [] base size a n e low high = absurd cc
inside_one (w ∷ v ∷ ws) base size a n e low high = absurd cc
inside_one (w ∷ []) base size a n e low high =
    let first : extent w ≡ (base, size) = cc in
    let starts : w.base ≡ base = ap (λ (x : ℕ × ℕ). x.0) first in
    let sized : length w.bytes ≡ size = ap (λ (x : ℕ × ℕ). x.1) first in
    let lies : has w a n ≡ true = and_from (nat_le w.base a) (nat_le (a + n) (w.base + length w.bytes)) (le-leb w.base a (omega arith))
    (le-leb (a + n) (w.base + length w.bytes) (omega arith)) in
    ap (λ (b : Bool). b || false) lies

-- ---- zeros

abbrev AreZero : List ℕ → Type 0
AreZero xs = AllByRecursion (λ x. x ≡ 0) xs

zeros_all : (n : ℕ) → AreZero (replicate n 0)
zeros_all zero = tt
zeros_all (suc n) = (refl, zeros_all n)

zeros_drop : (n : ℕ) (xs : List ℕ) → AreZero xs → AreZero (drop n xs)
zeros_drop zero xs h = h
zeros_drop (suc n) [] h = tt
zeros_drop (suc n) (x ∷ xs) h = zeros_drop n xs h.1

zeros_take : (n : ℕ) (xs : List ℕ) → AreZero xs → AreZero (take n xs)
zeros_take zero xs h = tt
zeros_take (suc n) [] h = tt
zeros_take (suc n) (x ∷ xs) h = (h.0, zeros_take n xs h.1)

zeros_are : (xs : List ℕ) → AreZero xs → xs ≡ replicate (length xs) 0
zeros_are [] h = refl
zeros_are (x ∷ xs) h = ap (λ y. y ∷ xs) h.0 ∙ ap (λ ys. 0 ∷ ys) (zeros_are xs h.1)

read_zero : (ws : List (ℕ × ℕ)) (a n : ℕ) (bytes : List ℕ) → read_at (map zeros ws) a n ≡ Some bytes → AreZero bytes
read_zero [] a n bytes e = absurd cc
read_zero (w ∷ ws) a n bytes e =
    cond_both (has (zeros w) a n) (Some (piece (zeros w) a n)) (read_at (map zeros ws) a n) (λ o. o ≡ Some bytes → AreZero bytes)
    (λ _ is. subst AreZero (same_Some (piece (zeros w) a n) bytes is)
    (zeros_take n (drop (a - w.0) (replicate w.1 0)) (zeros_drop (a - w.0) (replicate w.1 0) (zeros_all w.1))))
    (λ _ is. read_zero ws a n bytes is) e

pub zeros_read : (ws : List (ℕ × ℕ)) (a n : ℕ) (bytes : List ℕ) → read_at (map zeros ws) a n ≡ Some bytes → bytes ≡ replicate n 0
zeros_read ws a n bytes e = zeros_are bytes (read_zero ws a n bytes e) ∙ ap (λ k. replicate k 0) (length-read_at (map zeros ws) a n bytes e)
