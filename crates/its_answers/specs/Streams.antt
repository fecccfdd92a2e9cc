-- What a source told, where it tells its bytes.
use Rattle.std.specs.Prelude.{◌≡◌, ◌≤◌, ℕ, List, length, Option, IfSome}

-- these are all the bytes that it had
abbrev pub Tells : Option (List ℕ) → List ℕ → Type 0
Tells before bytes = IfSome before (λ all. all ≡ bytes)

-- these were read, where it tells them, and there are at most so many
pub record WasRead (told : Option (List ℕ)) (input : List ℕ) : Type 0 where
  pub whole : Tells told input
  pub short : length input ≤ 16777216
