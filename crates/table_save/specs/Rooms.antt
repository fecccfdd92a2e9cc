-- The room that a save needs.
use Rattle.std.specs.Prelude.{◌≡◌, ℕ, ◌+◌, ◌≤◌, List, ◌++◌, length}
use Rattle.its_plain.specs.declared.area.Area.{Area}

-- areas in a list, and how many it can hold
pub record AreaList : Type 0 where
  pub items : List Area
  pub capacity : ℕ

-- so many more can be appended
abbrev pub HasRoom : ℕ → AreaList → Type 0
HasRoom count areas = length areas.items + count ≤ areas.capacity

-- some areas were appended, of which there are no more than a number
pub record Appended (count : ℕ) (more : List Area) (old new : AreaList) : Type 0 where
  pub items : new.items ≡ old.items ++ more
  pub few : length new.items ≤ length old.items + count
  pub capacity : old.capacity ≤ new.capacity

-- for how many areas there is room
pub record SaveRoom : Type 0 where
  pub spare : ℕ
