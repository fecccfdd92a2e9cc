-- What a walk over a table's places finds, as a function: the relations on lists of places are its_plain's.
use Rattle.std.specs.Prelude.{◌≡◌, ◌⊎◌, ℕ, suc, zero, List, [], ◌∷◌, ◌++◌, Option, Some, None, Result, Ok, Err}

-- what is found from here on, with xs before it
abbrev pub with_front : {X F : Type 0} → List X → Result (List X) F → Result (List X) F
with_front xs (Ok ys) = Ok (xs ++ ys)
with_front xs (Err f) = Err f

abbrev pub go_on : {P X F : Type 0} → (P → Result (List X) F) → Option P → Result (List X) F
go_on f None = Ok []
go_on f (Some p) = f p

abbrev pub found_then : {X F : Type 0} → Result (List X) F → Result (List X) F → Result (List X) F
found_then (Ok xs) rest = with_front xs rest
found_then (Err f) rest = Err f

-- what the places have, for n places at most, or the first fault
abbrev pub walk : {P X F : Type 0} → (P → Result (List X) F) → (P → Option P) → ℕ → P → Result (List X) F
walk look next zero p = Ok []
walk look next (suc n) p = found_then (look p) (go_on (walk look next n) (next p))

-- ---- what a list has

abbrev pub Among : {X : Type 0} → X → List X → Type 0
Among x [] = ⊥
Among x (y ∷ ys) = (x ≡ y) ⊎ Among x ys

-- the place has it
abbrev pub HasAt : {P X F : Type 0} → (P → Result (List X) F) → P → X → Type 0
HasAt {P} {X} look q x = (xs : List X) × (look q ≡ Ok xs) × Among x xs

-- ---- what is found, put into a state one after another

abbrev pub after_all : {S X : Type 0} → (S → X → S) → S → List X → S
after_all put s [] = s
after_all put s (x ∷ xs) = after_all put (put s x) xs

abbrev pub after : {S X F : Type 0} → (S → X → S) → S → Result (List X) F → Result S F
after put s (Ok xs) = Ok (after_all put s xs)
after put s (Err f) = Err f
