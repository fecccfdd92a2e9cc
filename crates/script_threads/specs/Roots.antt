-- The root as it gives numbers and takes passes in.
use Rattle.std.specs.Prelude.{◌≡◌, ◌<◌, ◌≤◌, ℕ, suc, ◌+◌, [], ◌∷◌, length}
use Rattle.std.specs.List.{AllByRecursion}
use mathlib.Core.List.{IsPrefix}
use Rattle.its_plain.specs.History.{IsLegal, placed}
use Rattle.its_steps.specs.Good.{Ended, IsWhole}
use Rattle.its_steps.specs.World.{View}

-- what the root knows once it has looked: every entry is of a number that was given, and what a joined pass did is all that it did
pub record Knows (v : View) : Type 0 where
  pub given : AllByRecursion (λ e. e.pass < v.root.made) v.seen
  pub whole : AllByRecursion (IsWhole v.seen v.root.made) v.root.ended
  pub mine : v.mine ≡ placed 0 0 v.seen
  pub legal : IsLegal v.setup.start v.seen
  pub within : length v.seen ≤ v.setup.limits.place_last

-- the passes that were joined stand before the earlier ones, the last of them first
abbrev pub joined : Ended → Ended → Ended
joined [] ended = ended
joined (x ∷ xs) ended = joined xs (x ∷ ended)

-- the root took in passes with these numbers and calls
pub record TookIn (v : View) (xs : Ended) (w : View) : Type 0 where
  pub setup : w.setup ≡ v.setup
  pub number : w.number ≡ v.number
  pub held : w.held ≡ v.held
  pub made : w.root.made ≡ v.root.made
  pub mine : w.mine ≡ v.mine
  pub longer : IsPrefix v.seen w.seen
  pub ended : w.root.ended ≡ joined xs v.root.ended
  pub knows : Knows v → v.number ≡ 0 → Knows w

-- the numbers are m, m + 1, ..
abbrev pub Counted : ℕ → Ended → Type 0
Counted m [] = Unit {0}
Counted m (x ∷ xs) = (x.0 ≡ m) × Counted (suc m) xs

-- the root gave n numbers to new passes
pub record Gave (v : View) (n : ℕ) (w : View) : Type 0 where
  pub setup : w.setup ≡ v.setup
  pub number : w.number ≡ v.number
  pub held : w.held ≡ v.held
  pub made : w.root.made ≡ v.root.made + n
  pub mine : w.mine ≡ v.mine
  pub ended : w.root.ended ≡ v.root.ended
  pub longer : IsPrefix v.seen w.seen
  pub knows : Knows v → v.number ≡ 0 → Knows w
