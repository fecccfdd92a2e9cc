-- Entries of a table, or of a map, by rising number.
use Rattle.std.specs.Prelude.{◌≤◌, ℕ, ◌+◌, nat_lt, List, [], ◌∷◌, map, find, Option}

-- the numbers rise, from i on
abbrev pub RisesFrom : {X : Type 0} → ℕ → List (ℕ × X) → Type 0
RisesFrom i [] = Unit {0}
RisesFrom i (e ∷ es) = (i ≤ e.0) × RisesFrom (e.0 + 1) es

-- the first number after one
abbrev pub key_after : {X : Type 0} → ℕ → List (ℕ × X) → Option ℕ
key_after id es = find (λ k. nat_lt id k) (map (λ e. e.0) es)
