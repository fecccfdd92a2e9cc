-- Parts held in a row, one after another, each with a number.
use Rattle.std.specs.Prelude.{ℕ, zero, suc, Option, Some, None, List, ◌∷◌}
use Rattle.its_steps.specs.Contents.{Held}

-- the part of each number, if it is held
abbrev pub Row : Type 0
Row = ℕ → Option Held

abbrev pub with_one : Option Held → List Held → List Held
with_one None others = others
with_one (Some x) others = x ∷ others

-- those of the first n numbers before others, the highest first
unfoldable pub in_row : Row → ℕ → List Held → List Held
in_row row zero others = others
in_row row (suc n) others = with_one (row n) (in_row row n others)
