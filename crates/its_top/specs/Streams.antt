-- What came from a source, where it tells its bytes.
use Rattle.std.specs.Prelude.{◌≡◌, ℕ, List, [], ◌++◌, Option, Some, IfSome}

-- these bytes were the first that were taken
abbrev pub Taken : Option (List ℕ) → Option (List ℕ) → List ℕ → Type 0
Taken before now bytes = IfSome before (λ all. (rest : List ℕ) × (all ≡ bytes ++ rest) × (now ≡ Some rest))

-- nothing is left
abbrev pub IsAtEnd : Option (List ℕ) → Option (List ℕ) → Type 0
IsAtEnd before now = IfSome before (λ _. now ≡ Some [])
